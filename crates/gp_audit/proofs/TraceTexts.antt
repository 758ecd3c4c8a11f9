-- The trace of a journal is the text of its lines, and lines are those of the journal that is read off them.
use Rattle.std.proofs.Common.{◌≡◌, ℕ, zero, suc, true, false, List, [], ◌∷◌, ◌++◌, drop, get_or, map, Option, Some, None, refl, sym, ap, subst, ◌∙◌, append_assoc}
use Rattle.std.specs.List.{All}
use Rattle.std.specs.Prelude.{◌<◌, ◌^◌, codes, decimal, flat_map, slice_get, option_map}
use Rattle.std.proofs.lemmas.List.{append-nil}
use Rattle.std.proofs.lemmas.List.Elements.{All-nil, All-cons, All-head, All-tail}
use Rattle.gp_base.specs.declared.journal.Restart.{Restart}
use Rattle.gp_base.specs.declared.journal.Event.{Event}
use Rattle.gp_base.specs.declared.journal.Event.TheVariants as event
use Rattle.restart_log.specs.meaning.Trace.{event_restart, event_line, trace_text}
use Rattle.gp_audit.specs.declared.line.TraceLine.{TraceLine}
use Rattle.gp_audit.specs.declared.line.TraceLine.TheVariants as line
use Rattle.gp_audit.specs.LineTexts.{line_text, lines_text, IsNarrow, IsNarrowLine, BreaksAt}
use Rattle.gp_audit.specs.ToldLines.{events_from, events_of, restarts_told}
use Rattle.gp_audit.specs.meaning.Lines.{line_of, numbers_told, IsTrace}
use Rattle.gp_audit.specs.meaning.Reading.{IsBrokenAt}

post : (w x d n : List ℕ) → (w ++ (x ++ d)) ++ n ≡ (w ++ x) ++ (d ++ n)
post w x d n = ap (λ l. l ++ n) (sym (append_assoc w x d)) ∙ append_assoc (w ++ x) d n

take : (w x d s t : List ℕ) → (w ++ (x ++ d)) ++ (s ++ t) ≡ (w ++ (x ++ (d ++ s))) ++ t
take w x d s t =
    append_assoc w (x ++ d) (s ++ t)
    ∙ (ap (λ l. w ++ l) (sym (append_assoc (x ++ d) s t) ∙ ap (λ l. l ++ t) (append_assoc x d s)) ∙ sym (append_assoc w (x ++ (d ++ s)) t))

restart : (w f s p d r m n : List ℕ)
    → ((((w ++ f) ++ s) ++ ((p ++ s) ++ d)) ++ ((s ++ r) ++ m)) ++ n ≡ w ++ ((f ++ s) ++ (((p ++ s) ++ (d ++ s)) ++ (r ++ (m ++ n))))
restart w f s p d r m n =
    let a = (p ++ s) ++ d in
    let q = (s ++ r) ++ m in
    let t = r ++ (m ++ n) in
    let rest : q ++ n ≡ s ++ t = append_assoc (s ++ r) m n ∙ append_assoc s r (m ++ n) in
    let later : a ++ (q ++ n) ≡ ((p ++ s) ++ (d ++ s)) ++ t =
    ap (λ l. a ++ l) rest ∙ (sym (append_assoc a s t) ∙ ap (λ l. l ++ t) (append_assoc (p ++ s) d s)) in
    append_assoc (((w ++ f) ++ s) ++ a) q n
    ∙ (append_assoc ((w ++ f) ++ s) a (q ++ n)
    ∙ (ap (λ l. ((w ++ f) ++ s) ++ l) later
    ∙ (ap (λ l. l ++ (((p ++ s) ++ (d ++ s)) ++ t)) (append_assoc w f s) ∙ append_assoc w (f ++ s) (((p ++ s) ++ (d ++ s)) ++ t))))

pub restart-text : (r : Restart) → event_restart r ≡ line_text (line.Restart r)
restart-text r =
    restart (codes "restart ") (decimal r.front) (codes " ") (decimal r.struck) (decimal r.attempt) (codes "redo")
    (flat_map (λ position. codes " " ++ decimal position) r.redo) (codes "\n")

-- the text of an event is that of its line
pub event-text : (restarts : List Restart) (e : Event) (l : TraceLine) → line_of restarts e ≡ Some l → event_line restarts e ≡ line_text l
event-text restarts (event.Issue p) l is =
    let same : line.Issue p ≡ l = cc is in
    append_assoc (codes "issue ") (decimal p) (codes "\n") ∙ ap line_text same
event-text restarts (event.Post p a) l is =
    let same : line.Post p a ≡ l = cc is in
    post (codes "post ") (decimal p ++ codes " ") (decimal a) (codes "\n") ∙ ap line_text same
event-text restarts (event.Take p a true) l is =
    let same : line.Take p a true ≡ l = cc is in
    take (codes "take ") (decimal p ++ codes " ") (decimal a) (codes " ") (codes "applied\n") ∙ ap line_text same
event-text restarts (event.Take p a false) l is =
    let same : line.Take p a false ≡ l = cc is in
    take (codes "take ") (decimal p ++ codes " ") (decimal a) (codes " ") (codes "stale\n") ∙ ap line_text same
event-text restarts (event.Restart number) l is = go (slice_get restarts number) is
  where
    go : (o : Option Restart) → option_map line.Restart o ≡ Some l → elim o [ None ↦ [] | Some r ↦ event_restart r ] ≡ line_text l
    go None same = cc same
    go (Some r) same = let lines : line.Restart r ≡ l = cc same in restart-text r ∙ ap line_text lines
event-text restarts (event.Retire p) l is =
    let same : line.Retire p ≡ l = cc is in
    append_assoc (codes "retire ") (decimal p) (codes "\n") ∙ ap line_text same

events-text : (restarts : List Restart) (events : List Event) (lines : List TraceLine) → map Some lines ≡ map (line_of restarts) events
    → flat_map (event_line restarts) events ≡ lines_text lines
events-text restarts [] [] are = refl
events-text restarts [] (l ∷ lines) are = cc are
events-text restarts (e ∷ events) [] are = cc are
events-text restarts (e ∷ events) (l ∷ lines) are =
    let head : line_of restarts e ≡ Some l = cc are in
    let tail : map Some lines ≡ map (line_of restarts) events = cc are in
    ap (λ t. t ++ flat_map (event_line restarts) events) (event-text restarts e l head)
    ∙ ap (λ t. line_text l ++ t) (events-text restarts events lines tail)

-- what stands at the front of the rest of a list
pub dropped : {A : Type 0} (xs : List A) (k : ℕ) (x : A) (more : List A) → drop k xs ≡ x ∷ more
    → (slice_get xs k ≡ Some x) × (drop (suc k) xs ≡ more)
dropped [] zero x more is = cc is
dropped [] (suc k) x more is = cc is
dropped (y ∷ xs) zero x more is =
    let head : y ≡ x = cc is in
    let tail : xs ≡ more = cc is in
    (ap Some head, tail)
dropped (y ∷ xs) (suc k) x more is = dropped xs k x more is

-- lines are those of the events that are read off them
pub lines-from : (restarts : List Restart) (made : ℕ) (lines : List TraceLine) (rest : List Restart)
    → drop made restarts ≡ restarts_told lines ++ rest
    → map Some lines ≡ map (line_of restarts) (events_from made lines)
lines-from restarts made [] rest are = refl
lines-from restarts made (line.Issue p ∷ lines) rest are = ap (λ ls. Some (line.Issue p) ∷ ls) (lines-from restarts made lines rest are)
lines-from restarts made (line.Post p a ∷ lines) rest are = ap (λ ls. Some (line.Post p a) ∷ ls) (lines-from restarts made lines rest are)
lines-from restarts made (line.Take p a x ∷ lines) rest are =
    ap (λ ls. Some (line.Take p a x) ∷ ls) (lines-from restarts made lines rest are)
lines-from restarts made (line.Retire p ∷ lines) rest are = ap (λ ls. Some (line.Retire p) ∷ ls) (lines-from restarts made lines rest are)
lines-from restarts made (line.Restart r ∷ lines) rest are =
    let here = dropped restarts made r (restarts_told lines ++ rest) are in
    ap (λ ls. Some (line.Restart r) ∷ ls) (lines-from restarts (suc made) lines rest here.1)
    ∙ ap (λ o. option_map line.Restart o ∷ map (line_of restarts) (events_from (suc made) lines)) (sym here.0)

-- numbers of 32 bits
one : (n : ℕ) → IsNarrow n → All IsNarrow (n ∷ [])
one n narrow = All-cons IsNarrow n [] narrow (All-nil IsNarrow)

two : (n m : ℕ) → IsNarrow n → IsNarrow m → All IsNarrow (n ∷ m ∷ [])
two n m first second = All-cons IsNarrow n (m ∷ []) first (one m second)

both : (n m : ℕ) → All IsNarrow (n ∷ m ∷ []) → IsNarrow n × IsNarrow m
both n m all = (All-head IsNarrow n (m ∷ []) all, All-head IsNarrow m [] (All-tail IsNarrow n (m ∷ []) all))

numbers-narrow : (l : TraceLine) → IsNarrowLine l → All IsNarrow (numbers_told l)
numbers-narrow (line.Issue p) narrow = one p narrow
numbers-narrow (line.Post p a) narrow = two p a narrow.0 narrow.1
numbers-narrow (line.Take p a x) narrow = two p a narrow.0 narrow.1
numbers-narrow (line.Restart r) narrow =
    All-cons IsNarrow r.front (r.struck ∷ r.attempt ∷ r.redo) narrow.front (All-cons IsNarrow r.struck (r.attempt ∷ r.redo) narrow.struck
    (All-cons IsNarrow r.attempt r.redo narrow.attempt narrow.redo))
numbers-narrow (line.Retire p) narrow = one p narrow

line-narrow : (l : TraceLine) → All IsNarrow (numbers_told l) → IsNarrowLine l
line-narrow (line.Issue p) all = All-head IsNarrow p [] all
line-narrow (line.Post p a) all = both p a all
line-narrow (line.Take p a x) all = both p a all
line-narrow (line.Restart r) all =
    let struck = All-tail IsNarrow r.front (r.struck ∷ r.attempt ∷ r.redo) all in
    let attempt = All-tail IsNarrow r.struck (r.attempt ∷ r.redo) struck in
    record {
      front = All-head IsNarrow r.front (r.struck ∷ r.attempt ∷ r.redo) all;
      struck = All-head IsNarrow r.struck (r.attempt ∷ r.redo) struck;
      attempt = All-head IsNarrow r.attempt r.redo attempt;
      redo = All-tail IsNarrow r.attempt r.redo attempt;
    }
line-narrow (line.Retire p) all = All-head IsNarrow p [] all

-- the bytes of a trace are the text of its lines
pub trace-read : (bytes : List ℕ) (lines : List TraceLine) → IsTrace bytes lines → All IsNarrowLine lines × (bytes ≡ lines_text lines)
trace-read bytes lines trace = (
  λ k d l. line-narrow (get_or lines k d) (trace.narrow k d l),
  trace.bytes_are ∙ events-text trace.journal.restarts trace.journal.events lines trace.lines_are,
)

pub trace-of : (bytes : List ℕ) (lines : List TraceLine) → All IsNarrowLine lines → bytes ≡ lines_text lines → IsTrace bytes lines
trace-of bytes lines narrow is =
    let told = restarts_told lines in
    let are = lines-from told 0 lines [] (sym (append-nil told)) in
    record {
      journal = record { events = events_of lines; restarts = told };
      bytes_are = is ∙ sym (events-text told (events_of lines) lines are);
      lines_are = are;
      narrow = λ k d l. numbers-narrow (get_or lines k d) (narrow k d l);
    }

one-text : (l : TraceLine) → lines_text (l ∷ []) ≡ line_text l
one-text l = append-nil (line_text l)

one-line : (l : TraceLine) → IsNarrowLine l → All IsNarrowLine (l ∷ [])
one-line l narrow = All-cons IsNarrowLine l [] narrow (All-nil IsNarrowLine)

-- so are those of a broken one, up to the row
pub broken-read : (bytes : List ℕ) (row : ℕ) → IsBrokenAt bytes row → BreaksAt bytes row
broken-read bytes row broken =
    let read = trace-read broken.before broken.lines broken.read in
    record {
      lines = broken.lines;
      narrow = read.0;
      rest = broken.rest;
      bytes_are = broken.bytes_are ∙ ap (λ t. t ++ broken.rest) read.1;
      some_row = broken.some_row;
      no_line = λ l after narrow is. broken.no_line l (line_text l) after (trace-of (line_text l) (l ∷ []) (one-line l narrow)
          (sym (one-text l))) is;
      counted = broken.counted;
    }

pub broken-of : (bytes : List ℕ) (row : ℕ) → BreaksAt bytes row → IsBrokenAt bytes row
broken-of bytes row breaks =
    record {
      lines = breaks.lines;
      before = lines_text breaks.lines;
      rest = breaks.rest;
      read = trace-of (lines_text breaks.lines) breaks.lines breaks.narrow refl;
      bytes_are = breaks.bytes_are;
      some_row = breaks.some_row;
      no_line = λ l text after trace is.
          (let read = trace-read text (l ∷ []) trace in
          breaks.no_line l after (All-head IsNarrowLine l [] read.0) (is ∙ ap (λ t. t ++ after) (read.1 ∙ one-text l)));
      counted = breaks.counted;
    }
