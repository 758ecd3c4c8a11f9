-- Numbers of 64 bits, and cells, one after another.
use Rattle.std.proofs.Common.{◌≡◌, ◌<◌, ◌+◌, ℕ, suc, List, [], ◌∷◌, ◌++◌, map, take, length, get_or, sym, ap, ◌∙◌, subst, arith, append_assoc, SFits, w64}
use Rattle.std.specs.Prelude.{ℤ, pos, negsuc, All, codes, flat_map}
use Rattle.std.specs.Fmt.{signed_decimal}
use Rattle.std.proofs.lemmas.List.{map-append}
use Rattle.std.proofs.lemmas.List.Elements.{All-push}
use Rattle.std.proofs.lemmas.Grind.{flat_map-append}
use Rattle.std.proofs.Math.Seq.{take-suc}
use Rattle.restart_log.specs.meaning.Lines.{spaced}
use Rattle.retirement_log.specs.meaning.Rows.{IsWide, group, cell_numbers}
use Rattle.retirement_log.specs.meaning.Log.{numbered}

pub wide_of : (z : ℤ) → SFits w64 z → IsWide z
wide_of (pos n) fits = fits.sfits
wide_of (negsuc n) fits = fits.sfits

-- the next of them is one, too
pub one_more : {X : Type 0} (P : X → Type 0) (xs : List X) (k : ℕ) (x : X) → k < length xs → P (get_or xs k x) → All P (take k xs)
    → All P (take (k + 1) xs)
one_more P xs k x less here so_far =
    let next : k + 1 ≡ suc k = omega arith in
    subst (All P) (sym (ap (λ n. take n xs) next ∙ take-suc xs k x less)) (All-push P (take k xs) (get_or xs k x) so_far here)

-- the text of one cell more
pub cells_more : (f : ℕ × ℤ → ℕ × ℤ) (old : List (ℕ × ℤ)) (k : ℕ) (w : ℕ × ℤ) → k < length old
    → group (flat_map cell_numbers (map numbered (map f (take (k + 1) old))))
    ≡ group (flat_map cell_numbers (map numbered (map f (take k old)))) ++ spaced (cell_numbers (numbered (f (get_or old k w))))
cells_more f old k w less =
    let next : k + 1 ≡ suc k = omega arith in
    let last = get_or old k w in
    let so_far = take k old in
    let cells : map numbered (map f (take (k + 1) old)) ≡ map numbered (map f so_far) ++ numbered (f last) ∷ [] =
    ap (λ n. map numbered (map f (take n old))) next
    ∙ (ap (λ ws. map numbered (map f ws)) (take-suc old k w less)
    ∙ (ap (map numbered) (map-append f so_far (last ∷ [])) ∙ map-append numbered (map f so_far) (f last ∷ []))) in
    let values : flat_map cell_numbers (map numbered (map f (take (k + 1) old)))
    ≡ flat_map cell_numbers (map numbered (map f so_far)) ++ cell_numbers (numbered (f last)) =
    ap (flat_map cell_numbers) cells ∙ flat_map-append cell_numbers (map numbered (map f so_far)) (numbered (f last) ∷ []) in
    ap group values
    ∙ (ap (λ t. codes " ;" ++ t) (flat_map-append (λ value. codes " " ++ signed_decimal value)
    (flat_map cell_numbers (map numbered (map f so_far))) (cell_numbers (numbered (f last))))
    ∙ sym (append_assoc (codes " ;") (spaced (flat_map cell_numbers (map numbered (map f so_far)))) (spaced (cell_numbers (numbered (f last))))))
