-- The plain runs of the worked rows, computed.
use Rattle.std.proofs.Common.{◌≡◌, ℕ, ℤ, pos, negsuc, List, [], ◌∷◌, ◌++◌, map, replicate, refl}
use Rattle.std.specs.Prelude.{length}
use Rattle.std.specs.Int.{int_wrap}
use Rattle.gp_base.specs.declared.limits.Limits.{Limits}
use Rattle.gp_base.specs.declared.feed.Inputs.{Inputs}
use Rattle.gp_base.specs.declared.footprint.Loc.{Loc}
use Rattle.gp_base.specs.declared.footprint.Loc.TheVariants as loc
use Rattle.gp_base.specs.declared.ending.Why.TheVariants as why
use Rattle.gp_base.specs.declared.ending.End.{End}
use Rattle.gp_base.specs.declared.ending.End.TheVariants.{Finished, Stuck, Spent}
use Rattle.task_ast.specs.declared.sync.SyncOp.{SyncOp}
use Rattle.task_ast.specs.declared.sync.SyncOp.TheVariants as sync
use Rattle.task_ast.specs.meaning.Body.{body, stretch}
use Rattle.task_ast.specs.meaning.Repeat.{steps, state_after, repeated, until_done}
use Rattle.task_ast.specs.meaning.Plain.{Subthread, foot_of}
use Rattle.task_ast.specs.Plain.{order, end, final_records}
use Rattle.task_ast.specs.meaning.Tree.{Program}
use Rattle.task_ast.proofs.RowPrograms.{empty_batch, arithmetic, two_adders, reader_and_adder, crossed_locks, account, endless_loop, ten_turns, meeting, doubling, joining, settling}

-- so many record cells of 0
abbrev pub zeros : ℕ → Inputs
zeros count = record { records = replicate count (pos 0); feeds = [] }

abbrev pub limits : (turns subthreads : ℕ) → Limits
limits turns subthreads = record { turns = turns; subthreads = subthreads }

-- how many subthreads a run has, what they print in order, how it ends, and its records
record Outcome : Type 0 where
  count : ℕ
  lines : List (List ℤ)
  ending : End
  records : List ℤ

abbrev all_lines : List Subthread → List (List ℤ)
all_lines [] = []
all_lines (s ∷ rest) = s.lines ++ all_lines rest

abbrev outcome : Program → Inputs → Limits → Outcome
outcome program inputs limits = record {
  count = length (order program inputs limits);
  lines = all_lines (order program inputs limits);
  ending = end program inputs limits;
  records = final_records program inputs limits;
}

-- whose turn it was, and with what it begins
abbrev turn_of : Subthread → ℕ × SyncOp
turn_of s = (s.thread, s.begins.sync)

adders_order : map turn_of (order two_adders (zeros 1) (limits 1000 20)) ≡
    (0, sync.Start) ∷ (0, sync.Fork 0 (pos 3 ∷ [])) ∷ (1, sync.Start) ∷ (0, sync.Fork 0 (pos 4 ∷ [])) ∷ (1, sync.Lock 0) ∷ (2, sync.Start)
    ∷ (1, sync.Unlock 0) ∷ (2, sync.Lock 0) ∷ (0, sync.Join (pos 1)) ∷ (2, sync.Unlock 0) ∷ (0, sync.Join (pos 2)) ∷ []
unfolding steps body stretch until_done repeated
adders_order = refl

-- what it reads, and what it writes
abbrev touched : Subthread → List Loc × List Loc
touched s = ((foot_of s).reads, (foot_of s).writes)

adders_feet : map touched (order two_adders (zeros 1) (limits 1000 20)) ≡
    ([], loc.Regs 0 ∷ []) ∷ ([], loc.Regs 0 ∷ loc.Regs 1 ∷ []) ∷ ([], loc.Regs 1 ∷ []) ∷ ([], loc.Regs 0 ∷ loc.Regs 2 ∷ [])
    ∷ (loc.Rec 0 ∷ [], loc.Regs 1 ∷ loc.Rec 0 ∷ []) ∷ ([], loc.Regs 2 ∷ []) ∷ ([], loc.Regs 1 ∷ [])
    ∷ (loc.Rec 0 ∷ [], loc.Regs 2 ∷ loc.Rec 0 ∷ [])
    ∷ (loc.Regs 1 ∷ [], loc.Regs 0 ∷ []) ∷ ([], loc.Regs 2 ∷ []) ∷ (loc.Regs 2 ∷ [], loc.Regs 0 ∷ []) ∷ []
unfolding steps body stretch until_done repeated
adders_feet = refl

adders_outcome : outcome two_adders (zeros 1) (limits 1000 11) ≡ record { count = 11; lines = []; ending = Finished; records = pos 7 ∷ [] }
unfolding steps state_after body stretch until_done repeated int_wrap
adders_outcome = refl

ten_subthreads : outcome two_adders (zeros 1) (limits 1000 10) ≡ record { count = 10; lines = []; ending = Spent 10; records = pos 7 ∷ [] }
unfolding steps state_after body stretch until_done repeated int_wrap
ten_subthreads = refl

empty_outcome : outcome empty_batch (zeros 0) (limits 1000 20) ≡ record { count = 1; lines = []; ending = Finished; records = [] }
unfolding steps state_after body stretch until_done repeated int_wrap
empty_outcome = refl

arithmetic_outcome : outcome arithmetic (zeros 0) (limits 1000 20) ≡ record {
  count = 1;
  lines = (negsuc 9223372036854775807 ∷ []) ∷ (negsuc 9223372036854775807 ∷ []) ∷ (pos 0 ∷ pos 0 ∷ negsuc 2 ∷ negsuc 0 ∷ []) ∷ [];
  ending = Finished;
  records = [];
}
unfolding steps state_after body stretch until_done repeated int_wrap
arithmetic_outcome = refl

reader_outcome : outcome reader_and_adder (zeros 1) (limits 1000 20)
    ≡ record { count = 11; lines = (pos 0 ∷ []) ∷ []; ending = Finished; records = pos 4 ∷ [] }
unfolding steps state_after body stretch until_done repeated int_wrap
reader_outcome = refl

crossed_outcome : outcome crossed_locks (zeros 0) (limits 1000 20)
    ≡ record { count = 8; lines = (pos 1 ∷ []) ∷ (pos 2 ∷ []) ∷ []; ending = Stuck why.Deadlock 0 23; records = [] }
unfolding steps state_after body stretch until_done repeated int_wrap
crossed_outcome = refl

past_the_end : outcome (account 100) (zeros 100) (limits 1000 20)
    ≡ record { count = 1; lines = []; ending = Stuck why.Index 0 6; records = replicate 100 (pos 0) }
unfolding steps state_after body stretch until_done repeated int_wrap
past_the_end = refl

last_account : outcome (account 99) (zeros 100) (limits 1000 20)
    ≡ record { count = 3; lines = []; ending = Finished; records = replicate 99 (pos 0) ++ pos 1 ∷ [] }
unfolding steps state_after body stretch until_done repeated int_wrap
last_account = refl

endless_outcome : outcome endless_loop (zeros 0) (limits 10 20) ≡ record { count = 1; lines = []; ending = Spent 0; records = [] }
unfolding steps state_after body stretch until_done repeated int_wrap
endless_outcome = refl

ten_turns_outcome : outcome ten_turns (zeros 0) (limits 10 20) ≡ record { count = 1; lines = []; ending = Finished; records = [] }
unfolding steps state_after body stretch until_done repeated int_wrap
ten_turns_outcome = refl

nine_turns_outcome : outcome ten_turns (zeros 0) (limits 9 20) ≡ record { count = 1; lines = []; ending = Spent 0; records = [] }
unfolding steps state_after body stretch until_done repeated int_wrap
nine_turns_outcome = refl

meeting_outcome : outcome meeting (zeros 0) (limits 1000 20)
    ≡ record { count = 5; lines = (pos 3 ∷ []) ∷ (pos 1 ∷ []) ∷ (pos 2 ∷ []) ∷ (pos 4 ∷ []) ∷ []; ending = Finished; records = [] }
unfolding steps state_after body stretch until_done repeated int_wrap
meeting_outcome = refl

meeting_order : map turn_of (order meeting (zeros 0) (limits 1000 20))
    ≡ (0, sync.Start) ∷ (0, sync.Fork 0 []) ∷ (1, sync.Start) ∷ (1, sync.Barrier 0) ∷ (0, sync.Barrier 0) ∷ []
unfolding steps body stretch until_done repeated
meeting_order = refl

doubling_outcome : outcome doubling (zeros 0) (limits 1000 20)
    ≡ record { count = 4; lines = (pos 42 ∷ []) ∷ []; ending = Finished; records = [] }
unfolding steps state_after body stretch until_done repeated int_wrap
doubling_outcome = refl

join_nobody : outcome (joining 7) (zeros 0) (limits 1000 20) ≡ record { count = 1; lines = []; ending = Stuck why.Join 0 1; records = [] }
unfolding steps state_after body stretch until_done repeated int_wrap
join_nobody = refl

join_itself : outcome (joining 0) (zeros 0) (limits 1000 20)
    ≡ record { count = 1; lines = []; ending = Stuck why.Deadlock 0 1; records = [] }
unfolding steps state_after body stretch until_done repeated int_wrap
join_itself = refl

-- the settle sets the index to the value that was read
settling_order : map turn_of (order settling (zeros 3) (limits 1000 20)) ≡
    (0, sync.Start) ∷ (0, sync.Lock 0) ∷ (0, sync.Unlock 0) ∷ (0, sync.Settle 1 0) ∷ (0, sync.Lock 2) ∷ (0, sync.Unlock 2) ∷ []
unfolding steps body stretch until_done repeated
settling_order = refl

settling_outcome : outcome settling (zeros 3) (limits 1000 20)
    ≡ record { count = 6; lines = []; ending = Finished; records = pos 2 ∷ pos 0 ∷ pos 9 ∷ [] }
unfolding steps state_after body stretch until_done repeated int_wrap
settling_outcome = refl
