-- The command that clap reads the words of `run`, `replay` and `count` with, and what it makes of them: rules as the
-- crate `clap` has them, and the options are this project's own.
use Rattle.std.specs.Prelude.{◌≡◌, Option, Some, None, List, [], ◌∷◌, map, true, codes}
use Rattle.clap.specs.Simple.{App, new_rule, new_shape}
use Rattle.clap.specs.Walk.{Rule}
use Rattle.command_words.specs.Words.{Given, Text, given_in, value_given}

abbrev pub option_arg : Text → Rule
option_arg name = record (new_rule name) { long = Some name }

abbrev pub count_arg : Rule
count_arg = record (new_rule (codes "N")) { required = true }

-- the command, as the caller makes it
abbrev pub app_for : Text → List Text → App
app_for name names = record {
  top = record (new_shape name) { rules = count_arg ∷ map option_arg names; disable_help_flag = true };
  subs = [];
}

-- the words are taken: each name has the value that they give to it
pub record IsRead (names words : List Text) (value_of : Text → Option Text) : Type 0 where
  pub gs : List Given
  pub given : given_in names words ≡ Some gs
  pub values : (name : Text) → value_of name ≡ value_given gs name

-- the words are refused: they give nothing, or nothing to `N`
abbrev pub HasNoNumber : List Text → List Text → Type 0
HasNoNumber names words = (gs : List Given) → given_in names words ≡ Some gs → value_given gs (codes "N") ≡ None
