-- What a shelf of files holds and what a read of it answers.
use Rattle.std.specs.Prelude.{◌≡◌, ◌⊎◌, ℕ, ◌<◌, ◌≤◌, List, ◌++◌, length, replicate, Option, None, Some, Result, Err, IfOk, IfSome, IsSomeAnd, OnOk, IsErrOf}
use Rattle.std.specs.Map.{lookup}
use Rattle.std.specs.Str.{bytes_eq}
use Rattle.gp_base.specs.declared.shelf.ShelfFault.{ShelfFault}
use Rattle.gp_base.specs.declared.shelf.ShelfFault.TheVariants.{Failed, TooLong, OutOfMemory}

-- the bytes that stand under a name, if there is such a file
abbrev pub bytes_of : List (List ℕ × List ℕ) → List ℕ → Option (List ℕ)
bytes_of files name = lookup (bytes_eq name) files

-- the list grew at its end by copies of one name alone, possibly by none
pub record GrowsByOnly (name : List ℕ) (before now : List (List ℕ)) : Type 0 where
  pub copies : ℕ
  pub grown : now ≡ before ++ replicate copies name

-- `Failed` is answered only where the list of failed names grew, and the other answers of a read that was carried out leave it as it was
pub record HasFileCause (before now : List (List ℕ)) (result : Result (List ℕ) ShelfFault) : Type 0 where
  pub ok : OnOk result (now ≡ before)
  pub failed : IsErrOf result Failed → length before < length now
  pub too_long : IsErrOf result TooLong → now ≡ before

-- at `Ok` there are at most so many bytes
abbrev pub IsWithin : ℕ → Result (List ℕ) ShelfFault → Type 0
IsWithin at_most result = IfOk result (λ text. length text ≤ at_most)

-- the answers of a read that failed, or found no memory for that
abbrev pub IsFailure : Result (List ℕ) ShelfFault → Type 0
IsFailure result = (result ≡ Err Failed) ⊎ (result ≡ Err OutOfMemory)

-- what a read answers where these bytes, or none, stand under the name: a device may fail, and memory may be short
pub record AnswersRead (bytes : Option (List ℕ)) (at_most : ℕ) (before now : List (List ℕ))
    (result : Result (List ℕ) ShelfFault) : Type 0 where
  pub ok : IfOk result (λ text. bytes ≡ Some text)
  pub absent : bytes ≡ None → IsFailure result
  pub too_long : result ≡ Err TooLong → IsSomeAnd bytes (λ text. at_most < length text)
  pub longer : IfSome bytes (λ text. at_most < length text → now ≡ before → (result ≡ Err TooLong) ⊎ (result ≡ Err OutOfMemory))
