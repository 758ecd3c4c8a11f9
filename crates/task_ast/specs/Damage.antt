-- What a fault does to the effect of an attempt.
use Rattle.std.specs.Prelude.{ℤ, List, map, option_map, cond}
use Rattle.std.specs.Int.{int_bit_xor, w64}
use Rattle.task_ast.specs.meaning.Value.{is_zero}
use Rattle.task_ast.specs.declared.effect.Effect.{Effect}

-- the bits of the mask turned round; the test for mask 0 says that it changes nothing, whatever the value
abbrev pub masked : ℤ → ℤ → ℤ
masked mask v = cond (is_zero mask) v (int_bit_xor w64 v mask)

-- the mask on each of these values
abbrev pub all_masked : ℤ → List ℤ → List ℤ
all_masked mask values = map (masked mask) values

-- the mask falls on each register left to the thread or to its child, each value written and each value printed
abbrev pub damaged : ℤ → Effect → Effect
damaged mask e =
    record {
      thread = e.thread;
      writes = map (λ w. (w.0, masked mask w.1)) e.writes;
      regs = all_masked mask e.regs;
      child = option_map (λ c. (c.0, all_masked mask c.1)) e.child;
      prints = map (all_masked mask) e.prints;
    }
