use mathlib.Core.Path.{◌∙◌}
use native.Mathlib.Omega.{arith}
use Rattle.std.proofs.Common.{rules, tests}
use Rattle.std.proofs.lemmas.Iterator.{YieldsList-from_range}
use Rattle.std.proofs.lemmas.Iterator.Search.{any_from_yields_List}
use Rattle.lists.specs.Lists.{at}
use Rattle.lists.proofs.ChainLaws.{any_to}
use Rattle.tag.specs.KeyVector.{key_vector}
use Rattle.audit.specs.Verdict.{fails}
use Rattle.audit.proofs.judge.Response.any_fails.Goals as goal

pub returns : goal.returns
returns c =
    let a = c.args in
    let r = a.self.now in
    let tags = r.z.tags in
    any_from_yields_List (fails r.z (key_vector a.tag_key a.id) (at r.row.bytes) r.bytes.now) _ _ _ c.any.ensures.ran (YieldsList-from_range 0 tags tags (cc) (omega arith)) (λ x b q k. search (rules, tests))
    ∙ any_to _ tags
