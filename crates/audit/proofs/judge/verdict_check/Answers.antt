use Prim.Native.Nat.{ℕ, ◌*◌, ◌<◌}
use mathlib.Core.Path.{◌≡◌, sym, ap, ◌∙◌}
use mathlib.Core.Bool.{false}
use mathlib.Core.List.{List, [], ◌∷◌}
use native.Mathlib.Nat.{mul-le-mul}
use native.Mathlib.Omega.{arith}
use lib.ListN.{length}
use Rattle.lists.specs.Lists.{at}
use Rattle.lists.proofs.AnyLaws.{none_at, or_all}
use Rattle.answer.specs.Refusals.{differs}
use Rattle.answer.proofs.RefusalLaws.{refused, passed, listed, same, differs_same, differs_other}
use Rattle.sizes.specs.Lengths.{key_length, id_length, response_length}
use Rattle.sizes.specs.declared.Sizes.{Sizes}
use Rattle.sizes.proofs.SizeLaws.{ranged, response_sizes}
use Rattle.std.proofs.lemmas.Result.{err_from_is_err_and}
use Rattle.answer.specs.Answer.{Err}
use Rattle.message.specs.Challenge.{Challenge}
use Rattle.message.proofs.ChallengeReadLaws.{read_says, read_errs}
use Rattle.message.specs.Response.{response_head}
use Rattle.audit.specs.Verdict.{verdict_for}
use Rattle.audit.proofs.judge.verdict_check.Goals as goal

pub returns-then-sizes_outside : goal.returns-then-sizes_outside
unfolding verdict_for
returns-then-sizes_outside c = sym (refused _ _ (cc))

pub returns-in_err-challenge : goal.returns-in_err-challenge
unfolding verdict_for
returns-in_err-challenge c =
    let w = err_from_is_err_and _ c.from_residual.ensures.1 in
    let m = read_errs _ c.read.ensures c.in_err-challenge.was in
    w.1 ∙ ap Err (w.2 ∙ m.1) ∙ sym (passed _ _ (cc) ∙ refused _ _ m.0)

pub overflow_mul-z : goal.overflow_mul-z
overflow_mul-z c =
    let r = ranged _ (sym c.sizes_outside.ensures ∙ c.if-sizes_outside.false) in
    omega (arith, mul-le-mul {n₂ = 8} {m₂ = 16} r.places_high r.m_high)

pub response_length-requires : goal.response_length-requires
response_length-requires c =
    response_sizes _ (sym c.sizes_outside.ensures ∙ c.if-sizes_outside.false)

pub returns-then-tag_key-id : goal.returns-then-tag_key-id
unfolding verdict_for
returns-then-tag_key-id c =
    let m = read_says _ c.read.ensures c.in_ok-challenge.was in
    sym (passed _ _ (cc) ∙ passed _ _ m.0 ∙ refused _ _ (listed _ _ (cc)))

pub returns-then-not_there : goal.returns-then-not_there
unfolding verdict_for
returns-then-not_there c =
    let m = read_says _ c.read.ensures c.in_ok-challenge.was in
    sym
    (passed _ _ (cc) ∙ passed _ _ m.0 ∙ passed _ _ (listed _ _ (cc))
    ∙ refused _ _ (rw m.1 (sym c.not_there.ensures ∙ c.if-not_there.true)))

-- the response has its first byte
one_byte : (z : Sizes) (key id rows response : List ℕ) {long : ℕ} → long ≡ response_length z.n z.tags
    → or_all (differs (length key) key_length)
    (differs (length id) id_length ∷ differs (length rows) (z.places * z.m) ∷ differs (length response) long ∷ []) ≡ false
    → 0 < length response
one_byte z key id rows response {long} q e =
    omega (arith, q, same (length response) long (none_at _ 3 (listed (differs (length key) key_length) (_ ∷ _ ∷ _ ∷ []) e)))

pub bounds-response-0 : goal.bounds-response-0
bounds-response-0 c =
    let l = c.response_length.ensures in
    let a = c.args in
    one_byte a.z a.tag_key.now a.id.now a.rows.now a.response.now l c.if-tag_key-id.false

-- the first byte for the node that was read
head_read : {r n node : ℕ} → r ≡ at (response_head n) 0 → n ≡ node → r ≡ at (response_head node) 0
head_read p q = p ∙ ap (λ (n : ℕ). at (response_head n) 0) q

pub returns-then-response-head_byte : goal.returns-then-response-head_byte
unfolding verdict_for
returns-then-response-head_byte c =
    let m = read_says _ c.read.ensures c.in_ok-challenge.was in
    let head = head_read c.head_byte.ensures (c.node.ensures.0 ∙ ap (λ (c : Challenge). c.node) (sym m.1)) in
    sym
    (passed _ _ (cc) ∙ passed _ _ m.0 ∙ passed _ _ (listed _ _ (cc))
    ∙ passed _ _ (rw m.1 (sym c.not_there.ensures ∙ c.if-not_there.false))
    ∙ refused _ _ (differs_other (λ e. c.if-response-head_byte.true (e ∙ sym head))))

pub returns : goal.returns
unfolding verdict_for
returns c =
    let m = read_says _ c.read.ensures c.in_ok-challenge.was in
    let head = head_read c.head_byte.ensures (c.node.ensures.0 ∙ ap (λ (c : Challenge). c.node) (sym m.1)) in
    sym
    (passed _ _ (cc) ∙ passed _ _ m.0 ∙ passed _ _ (listed _ _ (cc))
    ∙ passed _ _ (rw m.1 (sym c.not_there.ensures ∙ c.if-not_there.false))
    ∙ passed _ _ (differs_same (c.if-response-head_byte.false ∙ head)))
