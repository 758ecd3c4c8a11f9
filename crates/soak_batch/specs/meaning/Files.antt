-- The files of the batch.
use Rattle.std.specs.Prelude.{ℕ, ◌+◌, ◌*◌, ◌/◌, List, [], ◌∷◌, ◌++◌, codes}
use Rattle.soak_batch.specs.meaning.Rows.{account_rows, move_rows, after_rows, drawn_rows}

-- how many subthreads a run of so many moves has: four for each, and 25 more
abbrev pub subthreads : (moves : ℕ) → ℕ
subthreads moves = 4 * moves + 25

-- the width of each of the 40 parts of such a run that one fault strikes
abbrev pub part_width : (moves : ℕ) → ℕ
part_width moves = subthreads moves / 40

-- The program's text. Eight threads carry out the moves of a feed between accounts, each eighth move by one of them. A
-- move takes the locks of its two accounts in rising order, and is left out where an account would go below 0; their
-- number is printed.
unfoldable pub program_text : List ℕ
program_text =
    codes "lock bank[100];\n"
    ++ codes "record acct[100] by bank from \"acct.csv\";\n"
    ++ codes "feed moves[3] from \"moves.csv\";\n"
    ++ codes "task mover(first) {\n"
    ++ codes "  var i, lo, hi, amt, $x, $y;\n"
    ++ codes "  i = first;\n"
    ++ codes "  while i < rows(moves) {\n"
    ++ codes "    if moves[i, 0] < moves[i, 1] {\n"
    ++ codes "      lo = moves[i, 0];\n"
    ++ codes "      hi = moves[i, 1];\n"
    ++ codes "      amt = moves[i, 2];\n"
    ++ codes "    } else {\n"
    ++ codes "      lo = moves[i, 1];\n"
    ++ codes "      hi = moves[i, 0];\n"
    ++ codes "      amt = 0 - moves[i, 2];\n"
    ++ codes "    }\n"
    ++ codes "    lock bank[lo];\n"
    ++ codes "    lock bank[hi];\n"
    ++ codes "    read acct[lo] into $x;\n"
    ++ codes "    read acct[hi] into $y;\n"
    ++ codes "    when $x - amt >= 0 and $y + amt >= 0 {\n"
    ++ codes "      write acct[lo] = $x - amt;\n"
    ++ codes "      write acct[hi] = $y + amt;\n"
    ++ codes "    } else {\n"
    ++ codes "      $ret = $ret + 1;\n"
    ++ codes "    }\n"
    ++ codes "    unlock bank[hi];\n"
    ++ codes "    unlock bank[lo];\n"
    ++ codes "    i = i + 8;\n"
    ++ codes "  }\n"
    ++ codes "}\n"
    ++ codes "task main() {\n"
    ++ codes "  var w, $r, $bad;\n"
    ++ codes "  while w < 8 { fork mover(w); w = w + 1; }\n"
    ++ codes "  w = 1;\n"
    ++ codes "  while w <= 8 { join w into $r; $bad = $bad + $r; w = w + 1; }\n"
    ++ codes "  print $bad;\n"
    ++ codes "}\n"

-- each file's name and bytes: the program, the accounts, so many moves that are drawn from the start, and the faults that
-- are drawn after them
abbrev pub soak_files : (moves start : ℕ) → List (List ℕ × List ℕ)
soak_files moves start =
    (codes "soak.gp", program_text) ∷ (codes "acct.csv", account_rows 0 100) ∷ (codes "moves.csv", move_rows moves start)
    ∷ (codes "faults.csv", drawn_rows (part_width moves) 0 40 (after_rows moves start)) ∷ []
