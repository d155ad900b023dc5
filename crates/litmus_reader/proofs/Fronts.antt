-- What was read before, in front of what is read from here on.
use Rattle.std.proofs.Common.{◌≡◌, ℕ, suc, map, ◌+◌, List, [], ◌∷◌, ◌++◌, length, Result, Ok, Err, refl, sym, ap, ◌∙◌, append_assoc, arith}
use Rattle.std.specs.List.{flat_map}
use Rattle.std.proofs.lemmas.List.{append-nil, length-append, map-append}
use Rattle.std.proofs.lemmas.Grind.{flat_map-append}
use Rattle.x86_subset.specs.declared.test.Atom.{Atom}
use Rattle.x86_subset.specs.Form.{Found}
use Rattle.litmus_reader.specs.Answer.{Refusal, ◌>>=◌}
use Rattle.litmus_reader.specs.Condition.{atom_of, Conjunctions, then_atom, then_or, all_of, Told, Joined, ends_of, in_a_row}
use Rattle.litmus_reader.specs.Expression.{all_read, with_atom, with_end}

-- what was read before, and then this
abbrev pub with_front : Joined → Result Joined Refusal → Result Joined Refusal
with_front front r =
    r >>= λ j. Ok (record {
      atoms = front.atoms ++ j.atoms;
      ends = front.ends ++ map (λ n. length front.atoms + n) j.ends;
    })

shifted : (k m : ℕ) → m ≡ suc k → (ends : List ℕ) → map (λ n. k + n) (map suc ends) ≡ map (λ n. m + n) ends
shifted k m e [] = refl
shifted k m e (n ∷ ns) =
    let h : k + suc n ≡ m + n = omega (arith, e) in
    ap (λ x. x ∷ map (λ n. k + n) (map suc ns)) h ∙ ap (λ l. (m + n) ∷ l) (shifted k m e ns)

abbrev pub joined : List Atom → List ℕ → Joined
joined atoms ends = record { atoms = atoms; ends = ends }

none_before : (ns : List ℕ) → map (λ n. 0 + n) ns ≡ ns
none_before [] = refl
none_before (n ∷ ns) =
    let e : 0 + n ≡ n = omega arith in ap (λ m. m ∷ map (λ n. 0 + n) ns) e ∙ ap (λ l. n ∷ l) (none_before ns)

pub with_none : (r : Result Joined Refusal) → with_front (joined [] []) r ≡ r
with_none (Ok j) = ap (λ ends. Ok (joined j.atoms ends)) (none_before j.ends)
with_none (Err e) = refl

pub regroup : (front : Joined) (found : Found) (r : Result Joined Refusal)
    → with_front front (with_atom found r) ≡ with_front (joined (front.atoms ++ atom_of found ∷ []) front.ends) r
regroup front found (Ok j) =
    let e : length (front.atoms ++ atom_of found ∷ [])
    ≡ suc (length front.atoms) = omega (arith, length-append front.atoms (atom_of found ∷ [])) in
    ap (λ atoms. Ok (joined atoms (front.ends ++ map (λ n. length front.atoms + n) (map suc j.ends))))
    (sym (append_assoc front.atoms (atom_of found ∷ []) j.atoms))
    ∙ ap (λ ends. Ok (joined ((front.atoms ++ atom_of found ∷ []) ++ j.atoms) (front.ends ++ ends)))
    (shifted (length front.atoms) (length (front.atoms ++ atom_of found ∷ [])) e j.ends)
regroup front found (Err e) = refl

pub regroup_end : (front : Joined) (r : Result Joined Refusal)
    → with_front front (with_end r) ≡ with_front (joined front.atoms (front.ends ++ length front.atoms ∷ [])) r
regroup_end front (Ok j) =
    let e : length front.atoms + 0 ≡ length front.atoms = omega arith in
    ap (λ n. Ok (joined (front.atoms ++ j.atoms) (front.ends ++ n ∷ map (λ n. length front.atoms + n) j.ends))) e
    ∙ ap (λ ends. Ok (joined (front.atoms ++ j.atoms) ends)) (sym
    (append_assoc front.ends (length front.atoms ∷ []) (map (λ n. length front.atoms + n) j.ends)))
regroup_end front (Err e) = refl

-- ---- conjunctions in a row

abbrev flat : List (List Atom) → List Atom
flat cs = flat_map (λ c. c) cs

-- the answer, with its conjunctions in a row
abbrev pub told : Told → Result Joined Refusal
told r = r >>= λ cs. Ok (in_a_row cs)

-- what was read, with its conjunctions in a row
abbrev pub front_of : Conjunctions → Joined
front_of read = joined (flat read.ended ++ read.atoms) (ends_of read.ended)

flat_push : (cs : List (List Atom)) (c : List Atom) → flat (cs ++ c ∷ []) ≡ flat cs ++ c
flat_push cs c = flat_map-append (λ c. c) cs (c ∷ []) ∙ ap (λ x. flat cs ++ x) (append-nil c)

ends_push : (cs : List (List Atom)) (c : List Atom) → ends_of (cs ++ c ∷ []) ≡ ends_of cs ++ length (flat cs ++ c) ∷ []
ends_push [] c = refl
ends_push (d ∷ cs) c =
    let k : length d + length (flat cs ++ c) ≡ length ((d ++ flat cs) ++ c) =
    sym (ap length (append_assoc d (flat cs) c) ∙ length-append d (flat cs ++ c)) in
    ap (λ ends. length d ∷ map (λ n. length d + n) ends) (ends_push cs c)
    ∙ ap (λ ends. length d ∷ ends) (map-append (λ n. length d + n) (ends_of cs) (length (flat cs ++ c) ∷ []))
    ∙ ap (λ n. length d ∷ (map (λ n. length d + n) (ends_of cs) ++ n ∷ [])) k

-- an atom more
pub front_atom : (read : Conjunctions) (found : Found) (r : Result Joined Refusal)
    → with_front (front_of read) (with_atom found r) ≡ with_front (front_of (then_atom read found)) r
front_atom read found r =
    regroup (front_of read) found r
    ∙ ap (λ atoms. with_front (joined atoms (ends_of read.ended)) r)
    (append_assoc (flat read.ended) read.atoms (atom_of found ∷ []))

row_is : (read : Conjunctions)
    → in_a_row (all_of read) ≡ joined (flat read.ended ++ read.atoms)
    (ends_of read.ended ++ length (flat read.ended ++ read.atoms) ∷ [])
row_is read =
    ap (λ atoms. joined atoms (ends_of (all_of read))) (flat_push read.ended read.atoms)
    ∙ ap (λ ends. joined (flat read.ended ++ read.atoms) ends) (ends_push read.ended read.atoms)

-- a `\/`
pub front_or : (read : Conjunctions) (r : Result Joined Refusal)
    → with_front (front_of read) (with_end r) ≡ with_front (front_of (then_or read)) r
front_or read r =
    regroup_end (front_of read) r
    ∙ ap (λ front. with_front front r) (sym (row_is read)
    ∙ ap (λ atoms. joined atoms (ends_of (all_of read))) (sym (append-nil (flat (all_of read)))))

-- the end
pub front_end : (read : Conjunctions) → with_front (front_of read) (Ok all_read) ≡ told (Ok (all_of read))
front_end read =
    let front = front_of read in
    let z : length front.atoms + 0 ≡ length front.atoms = omega arith in
    ap (λ (atoms : List Atom). Ok (joined atoms (front.ends ++ (length front.atoms + 0) ∷ []))) (append-nil front.atoms)
    ∙ ap (λ m. Ok (joined front.atoms (front.ends ++ m ∷ []))) z ∙ ap (λ j. Ok j) (sym (row_is read))
