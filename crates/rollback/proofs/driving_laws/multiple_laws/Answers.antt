use Rattle.rollback.proofs.Multiples.{cut-multiple, cut-oldest, cut-retired, whole-cut, rest-is-safe, rest-safe-only}
use Rattle.rollback.proofs.driving_laws.multiple_laws.Goals as goal

pub returns : goal.returns
returns c = record {
  cut = λ every dependence at p some driving unretired issued. (
    cut-multiple every some dependence at driving p issued,
    cut-oldest every some dependence at driving p unretired issued,
    cut-retired every some dependence at driving p unretired issued,
  );
  whole = λ every dependence faults at p some blocks driving.
      whole-cut every some dependence at driving blocks.stands.retired_applied p;
  rest = λ every dependence at p some. rest-is-safe every some dependence at p;
  rest_only = λ every dependence at p some driving counted unretired issued.
      rest-safe-only every some dependence at driving p counted unretired issued;
}
