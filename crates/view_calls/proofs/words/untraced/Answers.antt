use Rattle.std.proofs.Common.{◌∙◌, ◌+◌, ◌-◌, ◌++◌, length, ap, refl, take, drop}
use Rattle.command_line.specs.meaning.Words.{texts}
use Rattle.view_calls.proofs.TraceWords.{rest-taken, without-option}
use Rattle.view_calls.proofs.words.untraced.Goals as goal

pub returns : goal.returns
returns c =
    let first = take c.args.at c.args.words.now in
    let last = take (length c.args.words.now - (c.args.at + 2)) (drop (c.args.at + 2) c.args.words.now) in
    c.in_ok-push_words-2.ensures
    ∙ ap (λ before. before ++ texts last) (c.in_ok-push_words.ensures ∙ ap (λ none. texts none ++ texts first) c.new-rest.ensures.items)
    ∙ without-option c.args.words.now first last c.args.at refl (rest-taken c.args.words.now (c.args.at + 2))
