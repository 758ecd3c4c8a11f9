-- What words ask for keeps a log where they are those of `log`, and no log where they are those of `gprs_run` or of `ckpt`.
use Rattle.std.proofs.Common.{◌≡◌, ℕ, Bool, true, false, if◌then◌else◌, List, [], ◌∷◌, IfSome, refl}
use Rattle.std.specs.Prelude.{codes, option_and_then, ⊤}
use Rattle.std.specs.Str.{bytes_eq}
use Rattle.std.specs.declared.option.Option.{Option}
use Rattle.std.specs.declared.option.Option.TheVariants.{None, Some}
use Rattle.clap.specs.Words.{Text, fault_of, matches_of}
use Rattle.command_line.specs.meaning.Arguments.{is_faultless}
use Rattle.command_line.specs.meaning.Words.{asked_in, asked_among, both}
use Rattle.command_line.specs.meaning.CkptWords.{for_ckpt, every_in, cut_run, ckpt_in, ckpt_by}
use Rattle.command_line.specs.meaning.LogWords.{for_log, steals, log_with, log_in, log_by}
use Rattle.command_line.specs.declared.asked.Asked.{Asked}
use Rattle.command_line.specs.declared.asked.Command.{Command}
use Rattle.command_line.specs.declared.asked.Command.TheVariants.{Log}
use Rattle.command_line.specs.declared.asked.Verb.TheVariants.{Run}
use Rattle.command_line.proofs.NamedCommands.{named_command}

-- no log is kept by the command
abbrev pub KeepsNoLog : Command → Type 0
KeepsNoLog Log = ⊥
KeepsNoLog other = ⊤

-- no words of `gprs_run` ask for one, nor do those of a call that may wait
pub words_keep_none : (waits : Bool) (words : List Text) → IfSome (asked_among waits words) (λ asked. KeepsNoLog asked.command)
words_keep_none waits words = named_command KeepsNoLog tt tt tt (λ batch. tt) waits words

-- what holds of what is asked for where words are those of a command that takes them, holds of what they ask for
if_taken : (P : Asked → Type 0) (asked : Option Asked) → IfSome asked P → (b : Bool) → IfSome (if b then asked else None) P
if_taken P asked is true = is
if_taken P asked is false = tt

abbrev KeepsNone : Asked → Type 0
KeepsNone asked = KeepsNoLog asked.command

-- nor do the words of `ckpt`
pub ckpt_keeps_none : (words : List Text) → IfSome (ckpt_by words) (λ asked. KeepsNoLog asked.command)
ckpt_keeps_none [] = tt
ckpt_keeps_none (word ∷ words) =
    let rows = matches_of for_ckpt (word ∷ words) in
    let taken = is_faultless (fault_of for_ckpt (word ∷ words)) in
    if_taken KeepsNone (if taken then ckpt_in rows else None)
    (if_taken KeepsNone (ckpt_in rows) (go (every_in rows) (asked_in false Run rows)) taken) (bytes_eq word (codes "ckpt"))
  where
    go : (every : Option ℕ) (run : Option Asked) → IfSome (both cut_run every run) KeepsNone
    go (Some every) (Some run) = tt
    go (Some every) None = tt
    go None run = tt

-- what is asked for keeps a log, and its workers do not steal
pub record IsLogged (asked : Asked) : Type 0 where
  pub command : asked.command ≡ Log
  pub crew : steals asked.crew ≡ false

-- the words of `log` ask for such a run
pub log_asks : (words : List Text) → IfSome (log_by words) IsLogged
log_asks [] = tt
log_asks (word ∷ words) =
    let rows = matches_of for_log (word ∷ words) in
    let taken = is_faultless (fault_of for_log (word ∷ words)) in
    if_taken IsLogged (if taken then log_in rows else None)
    (if_taken IsLogged (log_in rows) (go (asked_in false Run rows)) taken) (bytes_eq word (codes "log"))
  where
    kept : (run : Asked) (b : Bool) → steals run.crew ≡ b
        → IfSome (if b then None else Some (record run { command = Log; trace = false })) IsLogged
    kept run true is = tt
    kept run false is = record { command = refl; crew = is }

    go : (run : Option Asked) → IfSome (option_and_then log_with run) IsLogged
    go None = tt
    go (Some run) = kept run (steals run.crew) refl
