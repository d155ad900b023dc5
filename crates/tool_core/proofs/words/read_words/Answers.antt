use Rattle.std.proofs.Common.{◌≡◌, ◌∙◌, ℕ, codes, refl, ap, map, get_or, List, [], ◌∷◌, None, string_bytes}
use Rattle.command_words.proofs.Rows.{differs}
use Rattle.tool_core.specs.Words.{command_of}
use Rattle.tool_core.proofs.words.read_words.Goals as goal

-- a first word that is no command's name names no command
unnamed : {X : Type 0} (f : X → List ℕ) (ws : List X) (d : X) (name : List ℕ) → name ≡ f (get_or ws 0 d)
    → (name ≡ codes "judge" → ⊥) → (name ≡ codes "order" → ⊥)
    → (name ≡ codes "witness" → ⊥) → (name ≡ codes "verdict" → ⊥) → (name ≡ codes "show" → ⊥)
    → (name ≡ codes "outcomes" → ⊥) → (name ≡ codes "faithful" → ⊥)
    → (name ≡ codes "skew" → ⊥) → (name ≡ codes "count" → ⊥) → (name ≡ codes "replay" → ⊥)
    → command_of (map f ws) ≡ None
unnamed f [] d name is not_judge not_order not_witness not_verdict not_show not_outcomes not_faithful not_skew not_count not_replay = refl
unnamed f (w ∷ ws) d name is not_judge not_order not_witness not_verdict not_show not_outcomes not_faithful not_skew not_count not_replay =
    rw (
      differs (f w) name (codes "judge") is not_judge,
      differs (f w) name (codes "order") is not_order,
      differs (f w) name (codes "witness") is not_witness,
      differs (f w) name (codes "verdict") is not_verdict,
      differs (f w) name (codes "show") is not_show,
      differs (f w) name (codes "outcomes") is not_outcomes,
      differs (f w) name (codes "faithful") is not_faithful,
      differs (f w) name (codes "skew") is not_skew,
      differs (f w) name (codes "count") is not_count,
      differs (f w) name (codes "replay") is not_replay,
    ) refl

pub returns-in_default-clause-usage : goal.returns-in_default-clause-usage
returns-in_default-clause-usage c = λ _.
    let first : c.as_str.result.now ≡ string_bytes (get_or c.args.words.now 0
    c.index-words-0.result) = c.as_str.ensures.value ∙ ap (λ w. string_bytes w) c.index-words-0.is in
    unnamed (λ w. string_bytes w) c.args.words.now c.index-words-0.result c.as_str.result.now first
    c.in_default.not-judge c.in_default.not-order
    c.in_default.not-witness c.in_default.not-verdict c.in_default.not-show c.in_default.not-outcomes
    c.in_default.not-faithful c.in_default.not-skew
    c.in_default.not-count c.in_default.not-replay
