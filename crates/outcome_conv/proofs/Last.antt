-- After the last store of the last iteration no store is written.
use Rattle.std.proofs.Common.{◌≡◌, ℕ, ◌<◌, ◌≤◌, ◌==◌, ◌&&◌, Bool, true, false, List, refl, arith}
use Rattle.std.proofs.lemmas.Bool.{and_parts, eqb-true}
use Rattle.x86_subset.specs.Test.{LitmusTest}
use Rattle.tso_machine.specs.Event.{Event}
use Rattle.tso_machine.specs.Run.{IsRunOf}
use Rattle.tso_machine.specs.Source.{is_memory_kind}
use Rattle.seq_conv.specs.declared.site.Origin.{Origin}
use Rattle.perp_base.proofs.Lists.{Among, any_none, each_from_among}
use Rattle.tso_machine.proofs.Parts.{memory_writes, write_stores}
use Rattle.outcome_conv.specs.Holds.{is_write_of}
use Rattle.outcome_conv.specs.Laws.{NothingFollowsTheLast}

not_written : (test : LitmusTest) (n : ℕ) (run : List Event) (o : Origin) (e : Event) (b : Bool) → IsRunOf test n run
    → n ≤ o.iteration → Among e run → is_write_of o e ≡ b → b ≡ false
not_written test n run o e false r l a h = refl
not_written test n run o e true r l a h =
    let p = and_parts ((is_memory_kind e.kind && (e.thread == o.thread)) && (e.place == o.place))
    (e.iteration == o.iteration) h in
    let q = and_parts (is_memory_kind e.kind && (e.thread == o.thread)) (e.place == o.place) p.0 in
    let k = and_parts (is_memory_kind e.kind) (e.thread == o.thread) q.0 in
    let same : e.iteration ≡ o.iteration = eqb-true e.iteration o.iteration p.1 in
    let early : e.iteration < n = (write_stores test n run e r a (memory_writes e.kind k.0)).early in
    absurd (omega arith)

pub nothing_follows_the_last_lem : NothingFollowsTheLast
nothing_follows_the_last_lem test n run o r l =
    any_none (is_write_of o) run (each_from_among (λ e. is_write_of o e ≡ false) run
    (λ e a. not_written test n run o e (is_write_of o e) r l a refl))
