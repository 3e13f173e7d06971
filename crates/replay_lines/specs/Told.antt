-- When the fields of an answer are the stored words. Definitions only.
use Rattle.std.specs.Prelude.{ℕ, Bool, cond, List, length, Option, Some, None, ◌==◌}
use Rattle.std.specs.List.{list_all, zip}
use Rattle.replay_lines.specs.Agrees.{agrees_of}
use Rattle.replay_lines.specs.declared.told.Field.{Field}
use Rattle.replay_lines.specs.declared.told.Field.TheVariants.{Number, Float}

-- a number is its word, and a float has it for its pattern
abbrev pub has_word : Field → ℕ → Bool
has_word (Number n) word = n == word
has_word (Float x) word = agrees_of x word

-- each field has the word in its place
abbrev pub have_words : List Field → List ℕ → Bool
have_words fields words = list_all (λ p. has_word p.0 p.1) (zip fields words)

-- nothing where there are more words than fields, or fewer
abbrev pub fields_judged : List Field → List ℕ → Option Bool
fields_judged fields words = cond (length fields == length words) (Some (have_words fields words)) None
