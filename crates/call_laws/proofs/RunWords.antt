-- What the words `run PROGRAM --faults LIST` come to.
use Rattle.std.proofs.Common.{◌≡◌, ℕ, false, if◌then◌else◌, List, [], ◌∷◌, refl, ap, ◌∙◌}
use Rattle.std.specs.Prelude.{codes, is_some}
use Rattle.std.specs.Str.{bytes_eq}
use Rattle.std.specs.declared.option.Option.TheVariants.{Some, None}
use Rattle.clap.specs.Words.{Kinds, Rule, Text, Shape, built, fault_of, matches_of}
use Rattle.clap.specs.Lexer.{long_of, short_of}
use Rattle.clap.specs.Simple.{entered}
use Rattle.clap.specs.Walk.{settled, finished, Held, Walk, Waiting, idle, option, positional, Step, value, subcommand_met, plain_word, after_step, walked, walk_from, nothing_held, word_met, walk}
use Rattle.clap.specs.Faults.{walk_fault, turn_fault, word_fault, step_fault, settle_fault, check_fault, entered_fault, defaults_fault}
use Rattle.clap.specs.Kinds.{or_else}
use Rattle.command_line.specs.meaning.Arguments.{is_faultless}
use Rattle.command_line.specs.meaning.Words.{app_for, for_run, asked_in, asked_by}
use Rattle.command_line.specs.declared.asked.Verb.TheVariants as verb
use Rattle.call_laws.specs.meaning.RunLaws.{run_words, run_asked, is_like_option, RunLaw}

-- ---- a word that is like no option

pub record IsPlain (word : Text) : Type 0 where
  pub dashes : bytes_eq word (45 ∷ 45 ∷ []) ≡ false
  pub long : long_of word ≡ None
  pub short : short_of word ≡ None

plain_word_of : (word : Text) → is_like_option word ≡ false → IsPlain word
plain_word_of [] h = record { dashes = refl; long = refl; short = refl }
plain_word_of (byte ∷ rest) h = record { dashes = rw h refl; long = rw h refl; short = rw h refl }

no_subcommand : (waiting : Waiting) (word : Text) → subcommand_met [] waiting word ≡ None
no_subcommand idle word = refl
no_subcommand (option id) word = refl
no_subcommand positional word = refl

module _ (c : List Rule) (waiting : Waiting) (position : ℕ) (word : Text) (held : Held) (plain : IsPlain word) where
  met : word_met c [] false waiting position word held ≡ plain_word c waiting word held
  met = rw (no_subcommand waiting word, plain.dashes, plain.long, plain.short) refl

  abbrev at : Walk
  at = record { held = held; waiting = waiting; position = position; is_trailing = false; stopped = None }

  stepped : walked c [] at word ≡ after_step c word at (plain_word c waiting word held).0 (plain_word c waiting word held).1
  unfolding walked
  stepped = ap (λ m. after_step c word at m.0 m.1) met

module _ (s : Shape) (waiting : Waiting) (position : ℕ) (word : Text) (held : Held) (plain : IsPlain word) where
  no_word_fault : word_fault s [] false waiting word held ≡ []
  no_word_fault = rw (no_subcommand waiting word, plain.dashes, plain.long, plain.short) refl

  no_turn_fault : step_fault s position (plain_word s.rules waiting word held).0 (plain_word s.rules waiting word held).1 ≡ []
      → turn_fault s [] (at s.rules waiting position word held plain) word ≡ []
  no_turn_fault no_step =
      ap (λ kinds. or_else kinds (step_fault s position (word_met s.rules [] false waiting position word held).0
      (word_met s.rules [] false waiting position word held).1))
      no_word_fault
      ∙ (ap (λ m. step_fault s position m.0 m.1) (met s.rules waiting position word held plain) ∙ no_step)

-- a walk without a fault at its first word goes on with the others
faultless_step : (s : Shape) (w w' : Walk) (word : Text) (rest : List Text) → turn_fault s [] w word ≡ [] → walked s.rules [] w word ≡ w'
    → walk_fault s [] w (word ∷ rest) ≡ walk_fault s [] w' rest
unfolding walk_fault
faultless_step s w w' word rest no_turn goes =
    ap (λ kinds. or_else kinds (walk_fault s [] (walked s.rules [] w word) rest)) no_turn ∙ ap (λ v. walk_fault s [] v rest) goes

-- ---- the words of the run

abbrev shape : Shape
shape = (built for_run).top

abbrev begun : Walk
begun = walk_from nothing_held

-- what is wrong after the walk
abbrev fault_after : Walk → Kinds
fault_after end =
    or_else (entered_fault (built for_run) end.stopped)
    (or_else (settle_fault shape.rules shape.args_override_self end.held)
    (or_else (defaults_fault (settled shape.rules end.held).rows shape.rules)
    (check_fault shape (finished shape.rules end.held) (is_some (entered (built for_run) end.stopped)))))

module _ (program list : Text) (program_is : IsPlain program) (list_is : IsPlain list) where
  abbrev words : List Text
  words = codes "run" ∷ program ∷ codes "--faults" ∷ list ∷ []

  -- after the program's name, after the option's, and at the end
  abbrev named : Walk
  named = after_step shape.rules program begun nothing_held value

  abbrev waits : Held
  waits = record (settled shape.rules named.held) { pending = Some (codes "faults", []) }

  abbrev waiting : Walk
  waiting = record { held = waits; waiting = option (codes "faults"); position = 2; is_trailing = false; stopped = None }

  abbrev listed : Held × Step
  listed = plain_word shape.rules (option (codes "faults")) list waits

  abbrev ended : Walk
  ended = after_step shape.rules list waiting listed.0 listed.1

  to_named : walked shape.rules [] begun program ≡ named
  to_named = stepped shape.rules idle 1 program nothing_held program_is

  to_waiting : walked shape.rules [] named (codes "--faults") ≡ waiting
  unfolding walked
  to_waiting = refl

  to_ended : walked shape.rules [] waiting list ≡ ended
  to_ended = stepped shape.rules (option (codes "faults")) 2 list waits list_is

  walk_ends : walk shape.rules [] nothing_held (program ∷ codes "--faults" ∷ list ∷ []) ≡ ended
  walk_ends =
      ap (λ w. walked shape.rules [] (walked shape.rules [] w (codes "--faults")) list) to_named
      ∙ (ap (λ w. walked shape.rules [] w list) to_waiting ∙ to_ended)

  walk_has_no_fault : walk_fault shape [] begun (program ∷ codes "--faults" ∷ list ∷ []) ≡ []
  unfolding walk_fault
  walk_has_no_fault =
      faultless_step shape begun named program (codes "--faults" ∷ list ∷ []) (no_turn_fault shape idle 1 program nothing_held program_is refl) to_named
      ∙ (faultless_step shape named waiting (codes "--faults") (list ∷ []) refl to_waiting
      ∙ faultless_step shape waiting ended list [] (no_turn_fault shape (option (codes "faults")) 2 list waits list_is refl) to_ended)

  no_fault_after : fault_after ended ≡ []
  unfolding defaults_fault
  no_fault_after = refl

  faultless : fault_of for_run words ≡ []
  faultless =
      ap (λ kinds. or_else kinds (fault_after (walk shape.rules [] nothing_held (program ∷ codes "--faults" ∷ list ∷ [])))) walk_has_no_fault
      ∙ (ap fault_after walk_ends ∙ no_fault_after)

  matches : matches_of for_run words ≡ finished shape.rules ended.held
  matches = ap (λ w. finished shape.rules w.held) walk_ends

  asks : asked_by words ≡ Some (run_asked program list)
  unfolding app_for
  asks =
      ap (λ kinds. if is_faultless kinds then asked_in false verb.Run (matches_of for_run words) else None) faultless
      ∙ ap (asked_in false verb.Run) matches

-- what the words ask for
asked_words : (program list : Text) → is_like_option program ≡ false → is_like_option list ≡ false
    → asked_by (run_words program list) ≡ Some (run_asked program list)
asked_words program list program_is list_is = asks program list (plain_word_of program program_is) (plain_word_of list list_is)

pub run_law : RunLaw
run_law call files file list program inputs faults runs known words file_is list_is batch =
    runs files (run_asked file list) program inputs faults known (ap asked_by words ∙ asked_words file list file_is list_is) batch
