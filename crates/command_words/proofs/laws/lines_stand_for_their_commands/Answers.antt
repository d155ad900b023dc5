use Rattle.command_words.proofs.Lined.{counts_are_read, lines_are_read, lines_stand_for_one}
use Rattle.command_words.proofs.Replays.{replays_are_of_jobs, replays_are_read}
use Rattle.command_words.proofs.laws.lines_stand_for_their_commands.Goals as goal

pub returns-clause-read : goal.returns-clause-read
returns-clause-read c = lines_are_read

pub returns-clause-one : goal.returns-clause-one
returns-clause-one c = lines_stand_for_one

pub returns-clause-count : goal.returns-clause-count
returns-clause-count c = counts_are_read

pub returns-clause-replay : goal.returns-clause-replay
returns-clause-replay c = replays_are_read

pub returns-clause-job : goal.returns-clause-job
returns-clause-job c = replays_are_of_jobs
