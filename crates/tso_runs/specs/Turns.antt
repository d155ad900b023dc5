-- Turns: what a thread does at a time. On x86-TSO (Sewell, Sarkar, Owens, Zappa Nardelli and Myreen, CACM 2010) each
-- event is a step by itself; how a part is cut into turns is this project's own. A turn is defined here alone: seeds,
-- schedules and walkers speak of these.
use Rattle.std.specs.Prelude.{◌≡◌, ℕ, Option, List, [], ◌∷◌, ◌++◌, filter, find, if◌then◌else◌, length, map, not}
use Rattle.tso_machine.specs.Event.{Event, is_drain}

-- The turns of a part after these Drains: each event that is no Drain with the Drains directly before it, then each
-- Drain that is left by itself, and at the end an empty turn.
abbrev pub turns_after : List Event → List Event → List (List Event)
turns_after drains [] = map (λ d. d ∷ []) drains ++ [] ∷ []
turns_after drains (e ∷ es) =
    if is_drain e then turns_after (drains ++ e ∷ []) es else ((drains ++ e ∷ []) ∷ turns_after [] es)

abbrev pub turns_of : List Event → List (List Event)
turns_of part = turns_after [] part

-- turns one after another
abbrev pub joined : List (List Event) → List Event
joined [] = []
joined (turn ∷ turns) = turn ++ joined turns

-- the turn's event that is no Drain, where it has one
abbrev pub turn_action : List Event → Option Event
turn_action turn = find (λ e. not (is_drain e)) turn

-- how many Drains the turn has
abbrev pub turn_drains : List Event → ℕ
turn_drains turn = length (filter is_drain turn)

-- the first turn of the part is this one, and the others are those of the rest
abbrev pub IsTurnBefore : List Event → List Event → Type 0
IsTurnBefore turn rest = turns_of (turn ++ rest) ≡ turn ∷ turns_of rest

-- the part is cut between two turns here: whole turns stand in front, and the others are those of the rest
pub record IsCutBetween (front rest : List Event) : Type 0 where
  pub turns : List (List Event)
  pub whole : front ≡ joined turns
  pub others : turns_of (front ++ rest) ≡ turns ++ turns_of rest
