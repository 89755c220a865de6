use Rattle.std.proofs.Common.{◌≡◌, refl, arith, rules}
use Rattle.keystream.specs.ChaCha.{quadruples, rounds}
use Rattle.keystream.proofs.ChaChaLaws.{round_more}
use Rattle.keystream.proofs.chacha.ten_rounds.Goals as goal

pub loop-init : goal.loop-init
unfolding rounds
loop-init c = search rules

pub double_round-u-requires : goal.double_round-u-requires
unfolding quadruples
double_round-u-requires c = refl

pub loop-preserved : goal.loop-preserved
loop-preserved c = round_more _ _ c.loop.invariant c.double_round-u.ensures

pub returns : goal.returns
returns c = let e : c.loop.counter ≡ 10 = omega arith in cc
