use Rattle.std.proofs.Common.{subst}
use Rattle.row_decision.specs.Decided.{IsAnswerOf}
use Rattle.row_decision.specs.declared.decide.Answer.{Answer}
use Rattle.row_decision.proofs.front.front_of.Goals as goal

pub returns-in-Possible : goal.returns-in-Possible
returns-in-Possible c test readings m s most steps f h =
    let P : Answer → Type 0 = λ a. IsAnswerOf test readings m s a in subst P c.in-Possible.is h

pub returns-in-Hidden : goal.returns-in-Hidden
returns-in-Hidden c test readings m s most steps f h =
    let P : Answer → Type 0 = λ a. IsAnswerOf test readings m s a in let k = subst P c.in-Hidden.is h in k.1

pub returns-in-Refuted : goal.returns-in-Refuted
returns-in-Refuted c test readings m s most steps f h =
    let P : Answer → Type 0 = λ a. IsAnswerOf test readings m s a in let k = subst P c.in-Refuted.is h in k.1

pub returns-in-GaveUp : goal.returns-in-GaveUp
returns-in-GaveUp c test readings m s most steps f h =
    let P : Answer → Type 0 = λ a. IsAnswerOf test readings m s a in f (subst P c.in-GaveUp.is h)
