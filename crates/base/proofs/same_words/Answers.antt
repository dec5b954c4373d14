-- `base::same_words` meets its contract: what differs so far is 0 exactly where the words passed are the same.
-- Assumes nothing.
use Rattle.std.proofs.Common.{length, arith}
use Rattle.std.proofs.lemmas.Slice.Zip.{zip_turn, zip_end}
use Rattle.std.proofs.lemmas.List.{length_push}
use Rattle.base.specs.Laws.Compared.{compared-more, compared-all}
use Rattle.base.proofs.same_words.Goals as goal

pub loop-x-preserved : goal.loop-x-preserved
loop-x-preserved c =
    let l = c.loop-x in
    let t = zip_turn c.args.a.now c.args.b.now l.yielded c.into_iter-x-iterator.result l.x-iterator c.next.new.self _ (cc) (cc c.zip-x-items.ensures.second.0) l.yielded_by _ c.in-Some.is c.next.ensures.steps in
    let more = compared-more c.args.a.now c.args.b.now (length l.yielded) l.different l.invariant in
    rw (length_push, t.2 0, t.3 0) more

pub returns : goal.returns
returns c =
    let l = c.loop-x in
    let e = zip_end c.args.a.now c.args.b.now l.yielded c.into_iter-x-iterator.result l.x-iterator c.next.new.self _ (cc) (cc c.zip-x-items.ensures.second.0) l.yielded_by c.in-None.is c.next.ensures.steps in
    compared-all c.args.a.now c.args.b.now (length l.yielded) l.different (omega arith) (omega arith) l.invariant
