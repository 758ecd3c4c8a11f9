-- There is a reader of logs.
use Rattle.gp_resume.specs.Laws.{SomeAnswerLaw}
use Rattle.gp_resume.proofs.LogAnswers.{some-answer}
use Rattle.resume_calls.specs.inner.Halting.{Reader}

reader_by : SomeAnswerLaw → Reader
reader_by some =
    record {
      answer_of = λ program inputs limits bytes. (some program inputs limits bytes).0;
      answers = λ program inputs limits bytes. (some program inputs limits bytes).1;
    }

pub some_reader : Reader
some_reader = reader_by some-answer
