-- The text of the example spells its program, form by form of the grammar.
use Rattle.std.proofs.Common.{◌≤◌, ℕ, List, [], ◌∷◌, ◌++◌, refl, inl, inr, arith}
use Rattle.std.specs.Prelude.{pos, codes, None}
use Rattle.gp_base.specs.declared.limits.TheConstants.{DEEPEST_NESTING}
use Rattle.task_ast.specs.declared.tree.Op.{Op}
use Rattle.task_ast.specs.declared.tree.Op.TheVariants.{Or, And, Add, Sub, Mul, Div, Rem}
use Rattle.task_ast.specs.meaning.Tree.{Expr, Num, Stmt, At, Print, Nothing, Then, TaskText, Program}
use Rattle.task_parser.specs.declared.token.Kind.{Kind}
use Rattle.task_parser.specs.declared.token.Kind.TheVariants as kind
use Rattle.task_parser.specs.declared.token.Token.{Token}
use Rattle.task_parser.specs.meaning.Words.{Form, Placed, many, ◌▸◌, ◌◂◌, ◌∣◌, the, separated}
use Rattle.task_parser.specs.meaning.Expressions.{Text, name, expression, level, compared, unary, operator}
use Rattle.task_parser.specs.meaning.Statements.{statement, listed_in}
use Rattle.task_parser.specs.meaning.Programs.{program, task, param, var_line}
use Rattle.task_parser.specs.meaning.Spelling.{Spells}

abbrev pub seven_text : Text
seven_text = codes "task main() { print 7; }"

abbrev printing : Stmt
printing = At 1 (Print (Num (pos 7) ∷ []))

abbrev main_task : TaskText
main_task = record { name = codes "main"; params = []; vars = []; body = Then printing Nothing; line = 1 }

abbrev pub the_program : Program
the_program = record { heads = []; tasks = main_task ∷ [] }

-- ---- the tokens

abbrev token_of : Kind → (from to : ℕ) → Token
token_of kind from to = record { kind = kind; from = from; to = to; line = 1 }

abbrev placed_at : Token → Placed
placed_at token = record { token = token; nesting = 0 }

abbrev task_word : Token
task_word = token_of (kind.Word 7) 0 4

abbrev main : Token
main = token_of kind.Name 5 9

abbrev opens : Token
opens = token_of (kind.Mark 2) 9 10

abbrev closes : Token
closes = token_of (kind.Mark 3) 10 11

abbrev begins : Token
begins = token_of (kind.Mark 4) 12 13

abbrev print_word : Token
print_word = token_of (kind.Word 17) 14 19

abbrev seven_token : Token
seven_token = token_of (kind.Num (pos 7)) 20 21

abbrev ends : Token
ends = token_of (kind.Mark 7) 21 22

abbrev leaves : Token
leaves = token_of (kind.Mark 5) 23 24

abbrev head_placed : List Placed
head_placed = placed_at task_word ∷ placed_at main ∷ placed_at opens ∷ placed_at closes ∷ placed_at begins ∷ []

abbrev body_placed : List Placed
body_placed = placed_at print_word ∷ placed_at seven_token ∷ placed_at ends ∷ []

-- ---- the grammar's forms

-- a chain, and a comparison, of one member
single : (operators : Form Op) (P : Form Expr) (p : Placed) (e : Expr) → P 0 (p ∷ []) e → level operators P 0 (p ∷ []) e
single operators P p e stands =
    record { from = (e, []); is = refl; stands = record { front = p ∷ []; back = []; parts = refl; first = stands; second = refl } }

single_compared : (P : Form Expr) (p : Placed) (e : Expr) → P 0 (p ∷ []) e → compared P 0 (p ∷ []) e
single_compared P p e stands =
    record { from = (e, None); is = refl; stands = record { front = p ∷ []; back = []; parts = refl; first = stands; second = refl } }

abbrev operands : Form Expr
operands = unary seven_text 1

abbrev products : Form Expr
products = level (operator "*" Mul ∣ operator "/" Div ∣ operator "%" Rem) operands

abbrev sums : Form Expr
sums = level (operator "+" Add ∣ operator "-" Sub) products

abbrev comparisons : Form Expr
comparisons = compared sums

abbrev conjunctions : Form Expr
conjunctions = level (operator "and" And) comparisons

number_7 : operands 0 (placed_at seven_token ∷ []) (Num (pos 7))
number_7 = inr (inr (inl (record { from = pos 7; is = refl; stands = (seven_token, record { passes = refl; alone = refl }) })))

seven : expression seven_text 1 0 (placed_at seven_token ∷ []) (Num (pos 7))
seven =
    let p = placed_at seven_token in
    let e : Expr = Num (pos 7) in
    single (operator "or" Or) conjunctions p e
    (single (operator "and" And) comparisons p e
    (single_compared sums p e
    (single (operator "+" Add ∣ operator "-" Sub) products p e
    (single (operator "*" Mul ∣ operator "/" Div ∣ operator "%" Rem) operands p e number_7))))

values : separated "," (expression seven_text 1) 0 (placed_at seven_token ∷ []) (Num (pos 7) ∷ [])
values = record {
  from = (Num (pos 7), []);
  is = refl;
  stands = record { front = placed_at seven_token ∷ []; back = []; parts = refl; first = seven; second = refl };
}

words_and_values : (the "print" ▸ separated "," (expression seven_text 1)) 0 (placed_at print_word ∷ placed_at seven_token ∷ []) (print_word, Num (pos 7) ∷ [])
words_and_values = record {
  front = placed_at print_word ∷ [];
  back = placed_at seven_token ∷ [];
  parts = refl;
  first = record { passes = refl; alone = refl };
  second = values;
}

whole_print : (the "print" ▸ separated "," (expression seven_text 1) ◂ ";") 0 body_placed (print_word, Num (pos 7) ∷ [])
whole_print = record {
  from = ((print_word, Num (pos 7) ∷ []), ends);
  is = refl;
  stands = record {
    front = placed_at print_word ∷ placed_at seven_token ∷ [];
    back = placed_at ends ∷ [];
    parts = refl;
    first = words_and_values;
    second = record { passes = refl; alone = refl };
  };
}

print_stands : statement seven_text 1 0 body_placed printing
print_stands = inr (inr (inr (inr (inl (record { from = (print_word, Num (pos 7) ∷ []); is = refl; stands = whole_print })))))

main_head : (the "task" ▸ name seven_text ◂ "(" ▸ listed_in (param seven_text) ◂ ")" ◂ "{" ▸ many (var_line seven_text)) 0 head_placed
    (((task_word, codes "main"), []), [])
main_head = record {
  front = head_placed;
  back = [];
  parts = refl;
  first = record {
    from = (((task_word, codes "main"), []), begins);
    is = refl;
    stands = record {
      front = placed_at task_word ∷ placed_at main ∷ placed_at opens ∷ placed_at closes ∷ [];
      back = placed_at begins ∷ [];
      parts = refl;
      first = record {
        from = (((task_word, codes "main"), []), closes);
        is = refl;
        stands = record {
          front = placed_at task_word ∷ placed_at main ∷ placed_at opens ∷ [];
          back = placed_at closes ∷ [];
          parts = refl;
          first = record {
            front = placed_at task_word ∷ placed_at main ∷ placed_at opens ∷ [];
            back = [];
            parts = refl;
            first = record {
              from = ((task_word, codes "main"), opens);
              is = refl;
              stands = record {
                front = placed_at task_word ∷ placed_at main ∷ [];
                back = placed_at opens ∷ [];
                parts = refl;
                first = record {
                  front = placed_at task_word ∷ [];
                  back = placed_at main ∷ [];
                  parts = refl;
                  first = record { passes = refl; alone = refl };
                  second = record { from = main; is = refl; stands = record { passes = refl; alone = refl } };
                };
                second = record { passes = refl; alone = refl };
              };
            };
            second = record { from = None; is = refl; stands = refl };
          };
          second = record { passes = refl; alone = refl };
        };
      };
      second = record { passes = refl; alone = refl };
    };
  };
  second = refl;
}

main_stands : task seven_text 1 0 (head_placed ++ body_placed ++ placed_at leaves ∷ []) main_task
main_stands = record {
  from = ((((task_word, codes "main"), []), []), Then printing Nothing);
  is = refl;
  stands = record {
    from = (((((task_word, codes "main"), []), []), Then printing Nothing), leaves);
    is = refl;
    stands = record {
      front = head_placed ++ body_placed;
      back = placed_at leaves ∷ [];
      parts = refl;
      first = record {
        front = head_placed;
        back = body_placed;
        parts = refl;
        first = main_head;
        second = record { from = printing ∷ []; is = refl; stands = (body_placed, [], refl, print_stands, refl) };
      };
      second = record { passes = refl; alone = refl };
    };
  };
}

program_stands : program seven_text 1 0 (head_placed ++ body_placed ++ placed_at leaves ∷ []) the_program
program_stands = record {
  from = ([], main_task ∷ []);
  is = refl;
  stands = record {
    front = [];
    back = head_placed ++ body_placed ++ placed_at leaves ∷ [];
    parts = refl;
    first = refl;
    second = record {
      from = (main_task, []);
      is = refl;
      stands = record { front = head_placed ++ body_placed ++ placed_at leaves ∷ []; back = []; parts = refl; first = main_stands; second = refl };
    };
  };
}

shallow : 0 ≤ DEEPEST_NESTING
shallow = omega arith

pub spells : Spells seven_text the_program
spells = record {
  tokens = task_word ∷ main ∷ opens ∷ closes ∷ begins ∷ print_word ∷ seven_token ∷ ends ∷ leaves ∷ [];
  lexes = refl;
  stands = record {
    placed = head_placed ++ body_placed ++ placed_at leaves ∷ [];
    same = refl;
    within = (shallow, (shallow, (shallow, (shallow, (shallow, (shallow, (shallow, (shallow, (shallow, tt)))))))));
    spelled = record { height = 1; stands = program_stands };
  };
}
