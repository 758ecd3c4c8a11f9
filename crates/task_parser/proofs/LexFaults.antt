-- Why a text can't go on where its lexing stops.
use Rattle.std.proofs.Common.{◌≡◌, inl, inr, leb, ℕ, Bool, true, false, eqb, ◌&&◌, ◌||◌, List, [], ◌∷◌, ◌++◌, length, take, drop, None, refl, ap, ◌∙◌, sym, subst, arith, length-append}
use Rattle.std.specs.Prelude.{take_while, is_some}
use Rattle.std.specs.List.{prefix_len, list_all}
use Rattle.std.specs.Char.{is_ascii_digit}
use Rattle.std.proofs.lemmas.List.Sums.{prefix_len-le-length, AllPass-from_list_all, list_all-from_AllPass}
use Rattle.std.proofs.lemmas.Bool.{eqb-true, eq-eqb, false≢true}
use Rattle.std.proofs.lemmas.Bool.Decides.{nat_tests}
use Rattle.task_parser.specs.declared.token.Kind.{Kind}
use Rattle.task_parser.specs.declared.token.Kind.TheVariants.{Reg, Quoted, Mark}
use Rattle.task_parser.specs.meaning.Pieces.{decimal, number_limit, is_letter, is_name_byte, is_quoted_byte, begins, row_of, marks}
use Rattle.task_parser.specs.TokenTable.{IsToken}
use Rattle.task_parser.specs.Splitting.{CannotGoOn, StopsShort, BeginsTooBig}
use Rattle.task_parser.proofs.LexPieces.{IsOther}
use Rattle.task_parser.proofs.LexTokens.{row_passes, prefix_passes, prefix_stops, class_digit, class_dollar, class_quote, class_other, token_begins, first_class}
use Rattle.task_parser.proofs.LexLongest.{digits_sound, longest_digits, mark_bytes}

pub both : (x y : Bool) → (x && y) ≡ true → (x ≡ true) × (y ≡ true)
both true y is = (refl, is)
both false y is = cc

pub no_empty_token : (kind : Kind) → IsToken kind [] → ⊥
no_empty_token kind token = false≢true (token_begins kind [] token)

module _ (b : ℕ) (dollar : eqb b 36 ≡ true) where
  -- what a token that begins with `$` has after it
  dollar_name : (kind : Kind) (more : List ℕ) → IsToken kind (b ∷ more) → begins is_letter more ≡ true
  dollar_name Reg more (name, shape, named) = let e : name ≡ more = cc in subst (λ t. begins is_letter t ≡ true) e named.first
  dollar_name kind more token = absurd (omega (arith, first_class kind b more token, class_dollar b dollar))

  dollar_stops : (bs : List ℕ) → begins is_letter bs ≡ false → CannotGoOn (b ∷ []) bs
  dollar_stops [] no_letter = λ none. cc
  dollar_stops (c ∷ cs) no_letter = (λ kind more token. false≢true (sym no_letter ∙ dollar_name kind (c ∷ more) token), λ none. absurd (cc))

  pub dollar_short : (bs : List ℕ) → begins is_letter bs ≡ false → StopsShort (b ∷ []) bs
  dollar_short bs no_letter = record {
    can_begin =
        inr (
          Reg,
          97 ∷ [],
          (
            97 ∷ [],
            rw (eqb-true b 36 dollar) refl,
            record { first = refl; others = AllPass-from_list_all is_name_byte (97 ∷ []) refl },
          ),
        );
    not_whole = λ kind token. false≢true (dollar_name kind [] token);
    cannot_go_on = dollar_stops bs no_letter;
  }

-- bytes between quotes, and a quote after them, have no other byte among them
no_other_byte : (front inside more : List ℕ) (next : ℕ) → front ++ next ∷ more ≡ inside ++ 34 ∷ [] → list_all is_quoted_byte inside ≡ true
    → is_quoted_byte next ≡ false → eqb next 34 ≡ false → ⊥
no_other_byte [] [] more next same passes bad no_quote =
    let e : next ≡ 34 = cc in false≢true (sym no_quote ∙ eq-eqb next 34 e)
no_other_byte [] (i ∷ inside) more next same passes bad no_quote =
    let e : i ≡ next = cc in
    false≢true (sym bad ∙ subst (λ c. is_quoted_byte c ≡ true) e (both (is_quoted_byte i) (list_all is_quoted_byte inside) passes).0)
no_other_byte (f ∷ front) [] more next same passes bad no_quote = absurd (omega (arith, ap length same, length-append front (next ∷ more)))
no_other_byte (f ∷ front) (i ∷ inside) more next same passes bad no_quote =
    let tail : front ++ next ∷ more ≡ inside ++ 34 ∷ [] = cc in
    no_other_byte front inside more next tail (both (is_quoted_byte i) (list_all is_quoted_byte inside) passes).1 bad no_quote

-- a quote is none of the bytes between quotes
no_quote_inside : (inside : List ℕ) → list_all is_quoted_byte (inside ++ 34 ∷ []) ≡ true → ⊥
no_quote_inside [] passes = false≢true passes
no_quote_inside (i ∷ inside) passes =
    no_quote_inside inside (both (is_quoted_byte i) (list_all is_quoted_byte (inside ++ 34 ∷ [])) passes).1

module _ (b : ℕ) (quote : eqb b 34 ≡ true) where
  quote_stops : (front rest : List ℕ) → begins is_quoted_byte rest ≡ false → begins (λ c. eqb c 34) rest ≡ false
      → CannotGoOn (b ∷ front) rest
  quote_stops front [] bad no_quote = λ none. cc
  quote_stops front (next ∷ rest) bad no_quote = (stuck, λ none. absurd (cc))
    where
      stuck : (kind : Kind) (more : List ℕ) → IsToken kind ((b ∷ front) ++ next ∷ more) → ⊥
      stuck Quoted more (inside, shape, passes) =
          let e : front ++ next ∷ more ≡ inside ++ 34 ∷ [] = cc in
          no_other_byte front inside more next e (list_all-from_AllPass is_quoted_byte inside passes) bad no_quote
      stuck kind more token = absurd (omega (arith, first_class kind b (front ++ next ∷ more) token, class_quote b quote))

  quote_not_whole : (front : List ℕ) → list_all is_quoted_byte front ≡ true → (kind : Kind) → IsToken kind (b ∷ front) → ⊥
  quote_not_whole front passes Quoted (inside, shape, all) =
      let e : front ≡ inside ++ 34 ∷ [] = cc in
      no_quote_inside inside (subst (λ t. list_all is_quoted_byte t ≡ true) e passes)
  quote_not_whole front passes kind token = absurd (omega (arith, first_class kind b front token, class_quote b quote))

  pub quote_short : (bs : List ℕ) → begins (λ c. eqb c 34) (drop (prefix_len is_quoted_byte bs) bs) ≡ false
      → StopsShort (b ∷ take (prefix_len is_quoted_byte bs) bs) (drop (prefix_len is_quoted_byte bs) bs)
  quote_short bs no_quote =
      let front = take (prefix_len is_quoted_byte bs) bs in
      record {
        can_begin =
            inr (
              Quoted,
              34 ∷ [],
              (
                front,
                rw (eqb-true b 34 quote) refl,
                AllPass-from_list_all is_quoted_byte front (prefix_passes is_quoted_byte bs),
              ),
            );
        not_whole = quote_not_whole front (prefix_passes is_quoted_byte bs);
        cannot_go_on = quote_stops front (drop (prefix_len is_quoted_byte bs) bs) (prefix_stops is_quoted_byte bs) no_quote;
      }

-- a byte that is a mark, or that begins one
abbrev is_mark_byte : ℕ → Bool
is_mark_byte b = is_some (row_of marks (b ∷ [])) || eqb b 33

module _ (b : ℕ) (other : IsOther b) where
  no_single_token : row_of marks (b ∷ []) ≡ None → (kind : Kind) → IsToken kind (b ∷ []) → ⊥
  no_single_token no_single (Mark row) token = cc (no_single, token)
  no_single_token no_single kind token = absurd (omega (arith, first_class kind b [] token, class_other b other))

  bang_stops : (bs : List ℕ) → row_of marks (take 2 (b ∷ bs)) ≡ None → CannotGoOn (b ∷ []) bs
  bang_stops [] no_pair = λ none. cc
  bang_stops (c ∷ cs) no_pair = (stuck, λ none. absurd (cc))
    where
      stuck : (kind : Kind) (more : List ℕ) → IsToken kind (b ∷ c ∷ more) → ⊥
      stuck (Mark row) [] token = cc (no_pair, token)
      stuck (Mark row) (d ∷ more) token = absurd (omega (arith, mark_bytes (b ∷ c ∷ d ∷ more) row token))
      stuck kind more token = absurd (omega (arith, first_class kind b (c ∷ more) token, class_other b other))

  pub bang_short : (bs : List ℕ) → row_of marks (take 2 (b ∷ bs)) ≡ None → row_of marks (b ∷ []) ≡ None → eqb b 33 ≡ true
      → StopsShort (b ∷ []) bs
  bang_short bs no_pair no_single bang = record {
    can_begin = inr (Mark 10, 61 ∷ [], rw (eqb-true b 33 bang) refl);
    not_whole = no_single_token no_single;
    cannot_go_on = bang_stops bs no_pair;
  }

  pub stray_short : (bs : List ℕ) → row_of marks (b ∷ []) ≡ None → eqb b 33 ≡ false → StopsShort [] (b ∷ bs)
  stray_short bs no_single no_bang = record {
    can_begin = inl refl;
    not_whole = no_empty_token;
    cannot_go_on = (stuck, λ none. (other.no_space, λ e. false≢true (sym other.no_hash ∙ eq-eqb b 35 e)));
  }
    where
      stuck : (kind : Kind) (more : List ℕ) → IsToken kind (b ∷ more) → ⊥
      stuck (Mark row) more token =
          let no_mark : is_mark_byte b ≡ false = rw (no_single, no_bang) refl in
          false≢true (sym no_mark ∙ row_passes (begins is_mark_byte) marks (b ∷ more) row refl token)
      stuck kind more token = absurd (omega (arith, first_class kind b more token, class_other b other))

pub digits_too_big : (b : ℕ) (bs : List ℕ) → is_ascii_digit b ≡ true
    → leb (decimal (take_while is_ascii_digit (b ∷ bs))) number_limit ≡ false
    → BeginsTooBig (b ∷ bs)
digits_too_big b bs digit big = record {
  value = decimal (take_while is_ascii_digit (b ∷ bs));
  bytes = prefix_len is_ascii_digit (b ∷ bs);
  within = prefix_len-le-length is_ascii_digit (b ∷ bs);
  is_token = (digits_sound (b ∷ bs) digit, refl);
  longest = longest_digits b bs (class_digit b digit);
  big = grind (arith, nat_tests);
}
