-- What the call that takes the words is promised to do.
use Rattle.std.specs.Prelude.{Bool, true, false}
use Rattle.call_cases.specs.meaning.Headline.{Call}
use Rattle.view_calls.specs.meaning.Commands.{Shows}
use Rattle.explain_calls.specs.meaning.Explains.{Explains}

-- the promise of the call that explains, or that of the call that shows
abbrev pub ViewPromise : (explains : Bool) → Call → Type 0
ViewPromise true call = Explains call
ViewPromise false call = Shows call
