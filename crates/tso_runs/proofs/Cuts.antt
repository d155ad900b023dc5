-- Where a part is cut into turns, and where it is cut between two of them.
use Rattle.std.proofs.Common.{◌≡◌, ◌∙◌, refl, sym, ap, ℕ, true, false, not, List, [], ◌∷◌, ◌++◌, map, filter, append_assoc, append-nil}
use Rattle.std.specs.List.{AllByRecursion as Each, AllZip}
use Rattle.tso_machine.specs.Event.{Event, Kind, Drain, is_drain, is_drain_kind}
use Rattle.tso_machine.specs.Part.{Fills}
use Rattle.tso_runs.specs.Turns.{IsCutBetween, IsTurnBefore, joined, turns_after, turns_of}

abbrev pub AreDrains : List Event → Type 0
AreDrains es = Each (λ e. is_drain e ≡ true) es

-- an event that is no Drain ends a turn
pub turns_front : (held ds : List Event) (e : Event) (rest : List Event) → AreDrains ds → is_drain e ≡ false
    → turns_after held (ds ++ e ∷ rest) ≡ (held ++ (ds ++ e ∷ [])) ∷ turns_of rest
turns_front held [] e rest drains acts = rw acts refl
turns_front held (d ∷ ds) e rest drains acts =
    rw (drains.0)
    (turns_front (held ++ d ∷ []) ds e rest drains.1 acts
    ∙ ap (λ l. l ∷ turns_of rest) (append_assoc held (d ∷ []) (ds ++ e ∷ [])))

pub action_turn : (ds : List Event) (e : Event) (rest : List Event) → AreDrains ds → is_drain e ≡ false
    → IsTurnBefore (ds ++ e ∷ []) rest
action_turn ds e rest drains acts = ap turns_of (append_assoc ds (e ∷ []) rest) ∙ turns_front [] ds e rest drains acts

-- Drains after which no other event comes are turns by themselves
abbrev singles : List Event → List (List Event)
singles es = map (λ e. e ∷ []) es ++ [] ∷ []

all_singles : (held part : List Event) → AreDrains part → turns_after held part ≡ singles (held ++ part)
all_singles held [] drains = ap singles (sym (append-nil held))
all_singles held (e ∷ es) drains =
    rw (drains.0) (all_singles (held ++ e ∷ []) es drains.1 ∙ ap singles (append_assoc held (e ∷ []) es))

pub drain_turn : (d : Event) (rest : List Event) → is_drain d ≡ true → AreDrains rest → IsTurnBefore (d ∷ []) rest
drain_turn d rest drain drains =
    rw drain (all_singles (d ∷ []) rest drains ∙ ap (λ l. (d ∷ []) ∷ l) (sym (all_singles [] rest drains)))

-- events that fill no slot are Drains
no_slots_cons : (t : ℕ) (e : Event) (es : List Event) (k : Kind) → e.kind ≡ k
    → (AllZip (Fills t) [] (filter (λ e. not (is_drain e)) es) → AreDrains es)
    → AllZip (Fills t) [] (filter (λ e. not (is_drain e)) (e ∷ es)) → AreDrains (e ∷ es)
no_slots_cons t e es Drain is rec fills =
    let drain : is_drain e ≡ true = ap is_drain_kind is in (drain, rec (rw drain at fills))
no_slots_cons t e es k is rec fills = let acts : is_drain e ≡ false = ap is_drain_kind is in absurd (rw acts at fills)

pub drains_alone : (t : ℕ) (part : List Event) → AllZip (Fills t) [] (filter (λ e. not (is_drain e)) part)
    → AreDrains part
drains_alone t [] fills = tt
drains_alone t (e ∷ es) fills = no_slots_cons t e es e.kind refl (drains_alone t es) fills

-- A part is cut between two turns at its front, and after each next turn.

joined-append : (turns : List (List Event)) (turn : List Event) → joined turns ++ turn ≡ joined (turns ++ turn ∷ [])
joined-append [] turn = sym (append-nil turn)
joined-append (first ∷ turns) turn =
    append_assoc first (joined turns) turn ∙ ap (λ l. first ++ l) (joined-append turns turn)

pub cut_at_front : (rest : List Event) → IsCutBetween [] rest
cut_at_front rest = record { turns = []; whole = refl; others = refl }

pub cut_after : (front turn rest : List Event) → IsCutBetween front (turn ++ rest) → IsTurnBefore turn rest
    → IsCutBetween (front ++ turn) rest
cut_after front turn rest cut is = record {
  turns = cut.turns ++ turn ∷ [];
  whole = ap (λ l. l ++ turn) cut.whole ∙ joined-append cut.turns turn;
  others = ap turns_of (append_assoc front turn rest)
      ∙ cut.others ∙ ap (λ l. cut.turns ++ l) is
      ∙ sym (append_assoc cut.turns (turn ∷ []) (turns_of rest));
}
