-- A text stands for one program, or has one first fault.
use Rattle.std.proofs.Common.{◌≡◌, ◌≢◌, ◌⊎◌, inl, inr, Bool, true, false, List, Result, Ok, Err, refl, sym, ap, ◌∙◌}
use Rattle.task_ast.specs.meaning.Tree.{Program}
use Rattle.task_parser.specs.declared.token.Token.{Token}
use Rattle.task_parser.specs.declared.fault.LexFault.{LexFault}
use Rattle.task_parser.specs.declared.fault.ParseFault.{ParseFault}
use Rattle.task_parser.specs.declared.fault.ParseFault.TheVariants.{Unexpected, TooDeep, OutOfMemory}
use Rattle.task_parser.specs.meaning.Lexing.{lexed}
use Rattle.task_parser.specs.meaning.Promise.{Stop}
use Rattle.task_parser.specs.meaning.Expressions.{Text}
use Rattle.task_parser.specs.meaning.Promise.{StandFor, StopFirst}
use Rattle.task_parser.specs.meaning.Answer.{offset_of, IsFirstFault}
use Rattle.task_parser.specs.inner.WholeText.{read_all}
use Rattle.task_parser.specs.meaning.Spelling.{HasFault, Meaning, Stands, LexFails, ParseFails, Means}
use Rattle.task_parser.specs.OneReading.{OnePlace, SomeMeaning, OneMeaning, OneSpelling}
use Rattle.task_parser.proofs.Whole.{spelled_read}
use Rattle.task_parser.proofs.OneReading.{first_fault_answer, program_or_fault, one_fault}

-- ---- a first fault by its place

fault_of : Text → Bool → List Token → ParseFault
fault_of text false rest = Unexpected (offset_of text rest)
fault_of text true rest = TooDeep (offset_of text rest)

-- where the fault stands
record Stops (text : Text) (tokens : List Token) (fault : ParseFault) : Type 0 where
  stop : Stop
  first : StopFirst text tokens stop
  is : fault ≡ fault_of text stop.deep stop.rest

stops : (text : Text) (tokens : List Token) (fault : ParseFault) → HasFault text tokens fault → Stops text tokens fault
unfolding fault_of
stops text tokens fault h = go fault h.known h.first
  where
    go : (fault : ParseFault) → fault ≢ OutOfMemory → IsFirstFault text tokens fault → Stops text tokens fault
    go (Unexpected at) known h = record { stop = record { deep = false; rest = h.0 }; first = h.2; is = ap Unexpected h.1 }
    go (TooDeep at) known h = record { stop = record { deep = true; rest = h.0 }; first = h.2; is = ap TooDeep h.1 }
    go OutOfMemory known h = absurd (known refl)

has_fault : (text : Text) (tokens : List Token) (deep : Bool) (rest : List Token)
    → StopFirst text tokens (record { deep = deep; rest = rest }) → HasFault text tokens (fault_of text deep rest)
unfolding fault_of
has_fault text tokens false rest h = record { known = λ e. cc; first = (rest, refl, h) }
has_fault text tokens true rest h = record { known = λ e. cc; first = (rest, refl, h) }

pub one_place : OnePlace
one_place text tokens a b h k =
    let x = stops text tokens a h in
    let y = stops text tokens b k in
    x.is ∙ ap (λ (s : Stop). fault_of text s.deep s.rest) (one_fault text tokens x.stop y.stop x.first y.first) ∙ sym y.is

-- ---- what reading makes of a text

read_meaning : Text → Result Program Stop → Meaning
read_meaning text (Ok p) = Stands p
read_meaning text (Err stop) = ParseFails (fault_of text stop.deep stop.rest)

meaning : Text → Result (List Token) LexFault → Meaning
meaning text (Ok tokens) = read_meaning text (read_all text tokens)
meaning text (Err fault) = LexFails fault

is_meaning : (text : Text) (m : Meaning) → Means text m → m ≡ meaning text (lexed text)
unfolding meaning read_meaning
is_meaning text (Stands p) h = sym (ap (meaning text) h.lexes ∙ ap (read_meaning text) (spelled_read text h.tokens p h.stands))
is_meaning text (LexFails fault) h = sym (ap (meaning text) h)
is_meaning text (ParseFails fault) h =
    let x = stops text h.tokens fault h.fails in
    ap ParseFails x.is ∙ sym (ap (meaning text) h.lexes ∙ ap (read_meaning text) (first_fault_answer text h.tokens x.stop x.first))

pub one_meaning : OneMeaning
one_meaning text a b h k = is_meaning text a h ∙ sym (is_meaning text b k)

pub one_spelling : OneSpelling
one_spelling text a b h k = cc (one_meaning text (Stands a) (Stands b) h k)

pub some_meaning : SomeMeaning
some_meaning text = go (lexed text) refl
  where
    parsed : (tokens : List Token) → lexed text ≡ Ok tokens
        → ((p : Program) × StandFor text tokens p) ⊎ ((stop : Stop) × StopFirst text tokens stop) → (m : Meaning) × Means text m
    parsed tokens e (inl (p, h)) = (Stands p, record { tokens = tokens; lexes = e; stands = h })
    parsed tokens e (inr (stop, h)) = (
      ParseFails (fault_of text stop.deep stop.rest),
      record { tokens = tokens; lexes = e; fails = has_fault text tokens stop.deep stop.rest h },
    )

    go : (r : Result (List Token) LexFault) → lexed text ≡ r → (m : Meaning) × Means text m
    go (Ok tokens) e = parsed tokens e (program_or_fault text tokens)
    go (Err fault) e = (LexFails fault, e)
