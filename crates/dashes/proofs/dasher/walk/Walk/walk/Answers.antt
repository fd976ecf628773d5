use Rattle.dashes.specs.PatternValues.{values}
use Rattle.dashes.proofs.Reaching.{span_ends}
use Rattle.dashes.proofs.dasher.walk.Walk.walk.Goals as goal

pub answer-requires-clause-end : goal.answer-requires-clause-end
answer-requires-clause-end g c =
    rw (c.len.ensures, c.span-span.ensures) (span_ends (values c.args.pattern) (g.B.Storage.acts.held c.args.storage.now) c.args.self c.args.reach c.choose_course-course.result c.requires.start c.requires.end)
