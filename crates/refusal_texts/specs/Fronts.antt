-- The front of the text that tells why a program is refused.
use Rattle.std.specs.Prelude.{◌≡◌, ℕ, List, ◌++◌, codes, decimal}
use Rattle.text_places.specs.Places.{place_of}
use Rattle.text_places.specs.Shown.{marked}

abbrev pub place_text : (name program : List ℕ) → (at : ℕ) → List ℕ
place_text name program at =
    name ++ codes ":" ++ decimal (place_of program at).line ++ codes ":" ++ decimal (place_of program at).column ++ codes ": "

-- a rule, and where it is broken
abbrev pub rule_text : (kind : List ℕ) → (number : ℕ) → (says unit : List ℕ) → (at : ℕ) → List ℕ
rule_text kind number says unit at =
    kind ++ codes " " ++ decimal number ++ codes ": " ++ says ++ codes " (" ++ kind ++ codes " " ++ decimal number ++ codes " at " ++ unit
    ++ codes " " ++ decimal at ++ codes ")\n"

-- the place, what is at fault there, the line with the mark, the rule
abbrev pub front_text : (name program : List ℕ) → (at : ℕ) → (message rule : List ℕ) → List ℕ
front_text name program at message rule = place_text name program at ++ message ++ codes "\n" ++ marked program at ++ rule

-- a front at this place with this rule was put at the end of a text; its message and the hints after it are only tested
pub record IsRefusal (name program : List ℕ) (at : ℕ) (rule old new : List ℕ) : Type 0 where
  pub message : List ℕ
  pub more : List ℕ
  pub text : new ≡ old ++ front_text name program at message rule ++ more
