-- What a turn of a player does, over x86-TSO (Sewell, Sarkar, Owens, Zappa Nardelli and Myreen, CACM 2010): the drains
-- that are due, then the action. When a write drains is this project's own rule.
use Rattle.std.specs.Prelude.{◌≡◌, ℕ, ◌+◌, ◌<◌, ◌≤◌, ◌⊎◌, Bool, List, [], ◌∷◌, ◌++◌, Some, drop, length, map, slice_get, slice_index, slice_set, take, unwrap_or}
use Rattle.x86_subset.specs.Test.{LitmusTest, body_of}
use Rattle.x86_subset.specs.declared.instr.Instr.{Instr}
use Rattle.x86_subset.specs.declared.instr.Instr.TheVariants.{Store, Load, Fence, Exchange}
use Rattle.seq_conv.specs.Numbers.{Table, value_at}
use Rattle.store_buffer.specs.Contents.{newest_value}
use Rattle.store_buffer.specs.Generator.{asks_drain}
use Rattle.store_buffer.specs.declared.entry.Entry.{Entry}
use Rattle.perp_base.specs.declared.options.Options.{Options}
use Rattle.perp_loop.specs.Actions.{due_before, entries_after, left_by_drains}
use Rattle.perp_loop.specs.declared.went.Went.{Went}
use Rattle.perp_loop.specs.declared.went.Went.TheVariants.{Action, Finished}
use Rattle.run_judge.specs.declared.event.RunEvent.{RunEvent}
use Rattle.run_judge.specs.declared.event.RunKind.{RunKind}
use Rattle.run_judge.specs.declared.event.RunKind.TheVariants as run
use Rattle.replay_run.specs.declared.player.Player.{Player}
use Rattle.replay_run.specs.Players.{made_by}

-- the event of a drained write of thread t
abbrev pub drained : ℕ → Entry → RunEvent
drained t e = record { thread = t; iteration = e.iteration; place = e.place; kind = run.Drain }

-- the words after these writes went to memory
abbrev pub words_with : List ℕ → List Entry → List ℕ
words_with words [] = words
words_with words (e ∷ es) = words_with (slice_set words e.loc e.value) es

-- the value that an action reads: the newest of the own buffer, or else that of memory
abbrev pub value_found : Instr → List ℕ → List Entry → ℕ
value_found (Store loc written) words entries = 0
value_found (Load reg loc) words entries = unwrap_or (newest_value loc entries) (slice_index words loc)
value_found Fence words entries = 0
value_found (Exchange loc written reg) words entries = slice_index words loc

-- the kind of the event of an action that reads v
abbrev pub kind_of : Instr → ℕ → RunKind
kind_of (Store loc written) v = run.Push
kind_of (Load reg loc) v = run.Read v
kind_of Fence v = run.Fence
kind_of (Exchange loc written reg) v = run.Exchange v

-- the words after an action that writes w
abbrev pub words_after : Instr → ℕ → List ℕ → List ℕ
words_after (Store loc written) w words = words
words_after (Load reg loc) w words = words
words_after Fence w words = words
words_after (Exchange loc written reg) w words = slice_set words loc w

-- whether the word of the player's next action asks for a drain
abbrev pub asks_now : LitmusTest → Options → Player → Bool
asks_now test options p = asks_drain options.seed p.thread options.rate (made_by test p)

-- the writes that drain before the player's action
abbrev pub drained_before : LitmusTest → Options → Player → Instr → List Entry
drained_before test options p action =
    take (due_before action (asks_now test options p) p.buffer) p.buffer.entries

-- and those that are left
abbrev pub left_before : LitmusTest → Options → Player → Instr → List Entry
left_before test options p action = left_by_drains action (asks_now test options p) p.buffer

-- the player makes its next action, after the drains that are due
pub record MakesAction (test : LitmusTest) (table : Table) (options : Options) (old : Player) (ws : List ℕ)
    (es : List RunEvent) (new : Player) (ws' : List ℕ) (es' : List RunEvent) : Type 0 where
  pub below : old.iteration < options.iterations
  pub action : Instr
  pub at : slice_get (body_of test old.thread) old.place ≡ Some action
  pub made : made_by test new ≡ made_by test old + 1
  pub buffer : new.buffer.entries
      ≡ entries_after action (value_at table old.thread old.place old.iteration) old.iteration old.place
      (left_before test options old action)
  pub words : ws' ≡ words_after action (value_at table old.thread old.place old.iteration)
      (words_with ws (drained_before test options old action))
  pub events : es' ≡ (es ++ map (drained old.thread) (drained_before test options old action)) ++ record {
    thread = old.thread;
    iteration = old.iteration;
    place = old.place;
    kind = kind_of action (value_found action (words_with ws (drained_before test options old action))
        (left_before test options old action));
  } ∷ []

-- all actions are made, and one write drains
pub record DrainsOne (test : LitmusTest) (options : Options) (old : Player) (ws : List ℕ) (es : List RunEvent)
    (new : Player) (ws' : List ℕ) (es' : List RunEvent) : Type 0 where
  pub last : old.iteration ≡ options.iterations
  pub some : 1 ≤ length old.buffer.entries
  pub made : made_by test new ≡ made_by test old
  pub buffer : new.buffer.entries ≡ drop 1 old.buffer.entries
  pub words : ws' ≡ words_with ws (take 1 old.buffer.entries)
  pub events : es' ≡ es ++ map (drained old.thread) (take 1 old.buffer.entries)

-- nothing is left to do, and nothing changes
pub record HasNothingLeft (options : Options) (old : Player) (ws : List ℕ) (es : List RunEvent) (new : Player)
    (ws' : List ℕ) (es' : List RunEvent) : Type 0 where
  pub last : old.iteration ≡ options.iterations
  pub empty : old.buffer.entries ≡ []
  pub same : new ≡ old
  pub words : ws' ≡ ws
  pub events : es' ≡ es

-- what a turn did
abbrev pub Took : Went → LitmusTest → Table → Options → Player → List ℕ → List RunEvent → Player → List ℕ
    → List RunEvent → Type 0
Took Action test table options old words events new words' events' =
    MakesAction test table options old words events new words' events'
    ⊎ DrainsOne test options old words events new words' events'
Took Finished test table options old words events new words' events' =
    HasNothingLeft options old words events new words' events'
