-- The elements of a picture, and how they are written as SVG. Where they stand is left to a layout.
use Rattle.std.specs.Prelude.{ℕ, suc, Bool, List, [], ◌∷◌, ◌++◌, codes, decimal}
use Rattle.run_picture.specs.declared.elements.Element.{Element}
use Rattle.run_picture.specs.declared.elements.Place.{Place}

-- A layout of a picture: how large it is; what frames it, by classes and words, as a legend and the numbers of threads; which positions have a
-- column though no restart touches them; and where each element stands, by its number.
pub record Layout : Type 0 where
  pub width : ℕ
  pub height : ℕ
  pub frame : List (List ℕ × List ℕ)
  pub shows : (position : ℕ) → Bool
  pub place : (number : ℕ) → Place

-- the colours of the classes, on white
unfoldable pub colours : List ℕ
colours = codes "<style>text{font:10px sans-serif}rect{fill:none}.column,.kept,.again,.struck,.undone,.stale,.unrun{text-anchor:middle}.thread{text-anchor:end}.thread rect,.fold rect{fill:#efefef}.kept rect{fill:#b9d7ea}.again rect{fill:#2b6ea6}.struck rect,.front rect{fill:#d7263d}.undone rect{fill:#f4a259}.stale rect{fill:#d4d4d4}.unrun rect{fill:#fff;stroke:#8d8d8d}.again text,.struck text{fill:#fff}.front text,.note text{fill:#d7263d}</style>\n<rect width='100%' height='100%' style='fill:#fff'/>\n"

-- how a picture of a size begins
unfoldable pub opening : (width height : ℕ) → List ℕ
opening width height =
    codes "<svg xmlns='http://www.w3.org/2000/svg' width='" ++ decimal width ++ codes "' height='" ++ decimal height ++ codes "'>\n" ++ colours

-- what an element says when it is pointed at, where that is anything
abbrev pub title_text : (title : List ℕ) → List ℕ
title_text [] = []
title_text (letter ∷ title) = codes "<title>" ++ letter ∷ title ++ codes "</title>"

-- its rectangle, and its words
unfoldable pub rectangle : Place → List ℕ
rectangle place =
    codes "<rect x='" ++ decimal place.left ++ codes "' y='" ++ decimal place.top ++ codes "' width='" ++ decimal place.width
    ++ codes "' height='" ++ decimal place.height ++ codes "'/>"

unfoldable pub words_at : Place → (words : List ℕ) → List ℕ
words_at place words =
    codes "<text x='" ++ decimal place.across ++ codes "' y='" ++ decimal place.base ++ codes "'>" ++ words ++ codes "</text>"

-- an element at its place
unfoldable pub element_text : Place → Element → List ℕ
element_text place e =
    codes "<g class='" ++ e.class ++ codes "'>" ++ title_text e.title ++ rectangle place ++ words_at place e.words ++ codes "</g>\n"

-- elements at their places, the first of which has this number
abbrev pub elements_text : (place : (number : ℕ) → Place) → (number : ℕ) → List Element → List ℕ
elements_text place n [] = []
elements_text place n (e ∷ elements) = element_text (place n) e ++ elements_text place (suc n) elements
