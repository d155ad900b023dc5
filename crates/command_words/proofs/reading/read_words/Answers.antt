use Rattle.std.proofs.Common.{◌≡◌, ◌∙◌, codes, refl, ap, map, get_or, List, [], ◌∷◌, None, string_bytes}
use Rattle.command_words.specs.Words.{Text, command_of}
use Rattle.command_words.proofs.Rows.{differs}
use Rattle.command_words.proofs.reading.read_words.Goals as goal

-- a first word that is no command's name names no command
unnamed : {X : Type 0} (f : X → Text) (ws : List X) (d : X) (name : Text) → name ≡ f (get_or ws 0 d)
    → (name ≡ codes "run" → ⊥) → (name ≡ codes "replay" → ⊥)
    → (name ≡ codes "convert" → ⊥) → (name ≡ codes "demo" → ⊥) → command_of (map f ws) ≡ None
unnamed f [] d name is not_run not_replay not_convert not_demo = refl
unnamed f (w ∷ ws) d name is not_run not_replay not_convert not_demo =
    rw (
      differs (f w) name (codes "run") is not_run,
      differs (f w) name (codes "replay") is not_replay,
      differs (f w) name (codes "convert") is not_convert,
      differs (f w) name (codes "demo") is not_demo,
    ) refl

pub returns-in_default-clause-usage : goal.returns-in_default-clause-usage
returns-in_default-clause-usage c = λ _.
    let first : c.as_str.result.now ≡ string_bytes (get_or c.args.words.now 0
    c.index-words-0.result) = c.as_str.ensures.value ∙ ap (λ w. string_bytes w) c.index-words-0.is in
    unnamed (λ w. string_bytes w) c.args.words.now c.index-words-0.result c.as_str.result.now first c.in_default.not-run
    c.in_default.not-replay c.in_default.not-convert c.in_default.not-demo
