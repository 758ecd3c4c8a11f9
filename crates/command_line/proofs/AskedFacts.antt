-- What a command's parse of words says of what they ask for.
use Rattle.std.proofs.Common.{◌≡◌, ◌∙◌, ◌≤◌, ap, refl, subst, sym, arith, Bool, true, false, List, [], ◌∷◌, length, get_or, Option, Some, None, option_and_then, option_map, if◌then◌else◌, String, string_bytes}
use Rattle.std.specs.Prelude.{Result, IfOk}
use Rattle.std.specs.declared.alloc.Global.{Global}
use Rattle.std.specs.declared.alloc.AllocError.{AllocError}
use Rattle.std.proofs.lemmas.Result.{IfOk-weaker}
use Rattle.clap.specs.Words.{App, Kinds, Row, Text, fault_of, matches_of}
use Rattle.clap.specs.declared.parser.matches.ArgMatches.{ArgMatches}
use Rattle.command_line.specs.meaning.Arguments.{is_faultless}
use Rattle.command_line.specs.Arguments.{found_rows}
use Rattle.command_line.specs.meaning.Words.{texts, named_verb, app_for, asked_of, asked_among, begins_with, accepted, accepted_as, both}
use Rattle.command_line.specs.declared.asked.Asked.{Asked}
use Rattle.command_line.specs.declared.asked.Verb.{Verb}

-- what is read of the rows that a parse has found is what the words mean to the command
module _ {X : Type 0} (read : List Row → Option X) (app : App) (words : List Text) where
  faultless : (kinds : Kinds) (rows : List Row) → option_and_then read (if is_faultless kinds then Some rows else None)
      ≡ (if is_faultless kinds then read rows else None)
  faultless [] rows = refl
  faultless (kind ∷ kinds) rows = refl

  meant : option_and_then read (accepted app Some words) ≡ accepted app read words
  meant = faultless (fault_of app words) (matches_of app words)

  found_means : (found : Option ArgMatches) → option_and_then read (option_map found_rows found)
      ≡ option_and_then (λ matches. read (found_rows matches)) found
  found_means None = refl
  found_means (Some matches) = refl

  -- the matches are what the parse gave, and the result is what is read of them
  module _ (found parse : Option ArgMatches) (is : parse ≡ found) (result : Result (Option X) AllocError)
      (reads : IfOk result (λ asked. asked ≡ option_and_then (λ matches. read (found_rows matches)) found)) where
    means : (all : Option (List Row)) → option_map found_rows parse ≡ all → IfOk result (λ asked. asked ≡ option_and_then read all)
    means all h =
        let parsed = ap (λ p. option_and_then read (option_map found_rows p)) (sym is) in
        IfOk-weaker result _ _ (λ asked e. e ∙ sym (found_means found) ∙ parsed ∙ ap (option_and_then read) h) reads

    pub read_found : option_map found_rows parse ≡ accepted app Some words → IfOk result (λ asked. asked ≡ accepted app read words)
    read_found h = rw (← meant) (means (accepted app Some words) h)

    -- the same where the words begin with the command's name
    pub read_named : (name : Text) → option_map found_rows parse ≡ accepted_as name app Some words
        → IfOk result (λ asked. asked ≡ accepted_as name app read words)
    read_named name h = go (begins_with name words) h
      where
        go : (b : Bool) → option_map found_rows parse ≡ (if b then accepted app Some words else None)
            → IfOk result (λ asked. asked ≡ (if b then accepted app read words else None))
        go true h = read_found h
        go false h = means None h

-- nothing is made where the second part is not there
pub none_alone : {A B C : Type 0} (make : A → B → C) (a : Option A) → None ≡ both make a None
none_alone make (Some a) = refl
none_alone make None = refl

-- the first of the words names the command, and the result is what they ask it for
pub asked_first : (waits : Bool) (words : List (String Global)) (word : String Global) (verb : Verb) → 1 ≤ length words
    → word ≡ get_or words 0 word → named_verb (string_bytes word) ≡ Some verb
    → (result : Result (Option Asked) AllocError) → IfOk result (λ asked. asked ≡ asked_of waits verb (texts words))
    → IfOk result (λ asked. asked ≡ asked_among waits (texts words))
asked_first waits [] word verb some first named result h = absurd (omega arith)
asked_first waits (w ∷ words) word verb some first named result h =
    let same = sym named ∙ ap (λ s. named_verb (string_bytes s)) first in
    subst (λ (v : Option Verb). IfOk result (λ asked. asked ≡ option_and_then (λ c. asked_of waits c (texts (w ∷ words))) v)) same h
