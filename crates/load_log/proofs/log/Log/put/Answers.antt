use Rattle.std.proofs.Common.{◌+◌, ◌-◌, ◌*◌, ◌<◌, ◌≤◌, ◌≡◌, ◌↔◌, IsTrue, length, get_or, ap, ◌∙◌, arith}
use Rattle.std.proofs.Math.ListN.{length-set}
use Rattle.load_log.proofs.Columns.{next_within, place_within, next_row, seen_more}
use Rattle.load_log.proofs.Rising.{marked_more}
use Rattle.load_log.proofs.log.Log.put.Goals as goal

pub index_mut-requires : goal.index_mut-requires
index_mut-requires c =
    let next : (c.self.inside.at < c.self.inside.columns)
    × (c.self.inside.row < c.self.inside.rows) = next_within _ _ _ _ c.self.invariant.1
    (rw (← c.self.view_is) at c.requires.room) in
    omega (
      arith,
      place_within c.self.inside.columns c.self.inside.rows c.self.inside.row c.self.inside.at next.0
          next.1,
    )

pub returns-then-self : goal.returns-then-self
returns-then-self c =
    let room : 1 ≤ c.self.inside.columns * c.self.inside.rows -
    (c.self.inside.row * c.self.inside.columns + c.self.inside.at) = rw (← c.self.view_is) at c.requires.room in
    rw (← c.self.view_is) (record {
      appended = seen_more c.self.inside.columns c.self.inside.rows
          c.self.inside.words.items c.self.inside.row c.self.inside.at c.args.value _ c.self.invariant.0
          c.self.invariant.1 room (next_row _ c.self.inside.row _ c.if-self.true);
    })

pub returns-else-self : goal.returns-else-self
returns-else-self c =
    let room : 1 ≤ c.self.inside.columns * c.self.inside.rows -
    (c.self.inside.row * c.self.inside.columns + c.self.inside.at) = rw (← c.self.view_is) at c.requires.room in
    rw (← c.self.view_is) (record {
      appended = seen_more c.self.inside.columns c.self.inside.rows
          c.self.inside.words.items c.self.inside.row c.self.inside.at c.args.value _ c.self.invariant.0
          c.self.invariant.1 room (omega arith);
    })

pub keeps_rising-requires-clause-there : goal.keeps_rising-requires-clause-there
keeps_rising-requires-clause-there c =
    let room : 1 ≤ c.self.inside.columns * c.self.inside.rows -
    (c.self.inside.row * c.self.inside.columns + c.self.inside.at) = rw (← c.self.view_is) at c.requires.room in
    let next : (c.self.inside.at < c.self.inside.columns)
    × (c.self.inside.row < c.self.inside.rows) = next_within _ _ _ _ c.self.invariant.1 room in
    omega (
      arith,
      place_within c.self.inside.columns c.self.inside.rows c.self.inside.row c.self.inside.at next.0
          next.1,
      ap length c.deref.ensures.value,
    )

pub invariant_of-self : goal.invariant_of-self
invariant_of-self c =
    let room : 1 ≤ c.self.inside.columns * c.self.inside.rows -
    (c.self.inside.row * c.self.inside.columns + c.self.inside.at) = rw (← c.self.view_is) at c.requires.room in
    let next : (c.self.inside.at < c.self.inside.columns)
    × (c.self.inside.row < c.self.inside.rows) = next_within _ _ _ _ c.self.invariant.1 room in
    let within : c.self.inside.at < length c.self.inside.rises = omega arith in
    let kept : IsTrue c.keeps_rising.result ↔ (0 < c.self.inside.row
    → get_or c.self.inside.words.items (c.self.inside.at * c.self.inside.rows + c.self.inside.row - 1) 0
    ≤ c.args.value) = rw c.deref.ensures.value at c.keeps_rising.ensures in
    let is : (c.self.inside.row + 1) * c.self.inside.columns + 0
    ≡ c.self.inside.row * c.self.inside.columns + c.self.inside.at + 1 = next_row _ c.self.inside.row _
    c.if-self.true in (
      length-set c.self.inside.words.items _ c.args.value
          ∙ c.self.invariant.0,
      λ some. some,
      omega (arith, is),
      c.self.invariant.3,
      marked_more c.self.inside.rises c.keeps_rising.result c.self.inside.columns c.self.inside.rows
          c.self.inside.words.items c.self.inside.row c.self.inside.at c.args.value _ c.self.invariant.0 next.0 next.1
          within is kept c.self.invariant.4,
    )

pub invariant_of-self-else-self : goal.invariant_of-self-else-self
invariant_of-self-else-self c =
    let room : 1 ≤ c.self.inside.columns * c.self.inside.rows -
    (c.self.inside.row * c.self.inside.columns + c.self.inside.at) = rw (← c.self.view_is) at c.requires.room in
    let next : (c.self.inside.at < c.self.inside.columns)
    × (c.self.inside.row < c.self.inside.rows) = next_within _ _ _ _ c.self.invariant.1 room in
    let within : c.self.inside.at < length c.self.inside.rises = omega arith in
    let kept : IsTrue c.keeps_rising.result ↔ (0 < c.self.inside.row
    → get_or c.self.inside.words.items (c.self.inside.at * c.self.inside.rows + c.self.inside.row - 1) 0
    ≤ c.args.value) = rw c.deref.ensures.value at c.keeps_rising.ensures in
    let is : c.self.inside.row * c.self.inside.columns + (c.self.inside.at + 1)
    ≡ c.self.inside.row * c.self.inside.columns + c.self.inside.at + 1 = omega arith in (
      length-set c.self.inside.words.items _ c.args.value
          ∙ c.self.invariant.0,
      λ some. omega arith,
      omega (arith, is),
      c.self.invariant.3,
      marked_more c.self.inside.rises c.keeps_rising.result c.self.inside.columns c.self.inside.rows
          c.self.inside.words.items c.self.inside.row c.self.inside.at c.args.value _ c.self.invariant.0 next.0 next.1
          within is kept c.self.invariant.4,
    )
