-- Each call does to the image what it does to the table; so does Gather, and every list of calls. Assumes nothing.
use Prim.Native.Nat.{ℕ, ◌<◌}
use mathlib.Core.Path.{◌≡◌, refl, ap, ◌∙◌}
use mathlib.Core.Bool.{Bool, true, false, not}
use mathlib.Core.List.{List, [], ◌∷◌}
use native.Mathlib.Omega.{arith}
use lib.Dec.{leb}
use lib.ListN.{length}
use borrow.Author.Tests.{leb-false}
use Rattle.lists.specs.Lists.{at, any_of, any_below}
use Rattle.lists.proofs.AnyLaws.{none_at, any_below_lem, any_skip, any_last, any_same}
use Rattle.answer.specs.Answer.{Outcome, done, Ok, Err}
use Rattle.answer.specs.declared.Refusal.TheVariants.{Size, Length, NoSuchPlace, PlaceEmpty, PlaceFilled}
use Rattle.answer.specs.Refusals.{refuse, afterwards}
use Rattle.answer.proofs.RefusalLaws.{passed, accepted, refuse_same}
use Rattle.sizes.specs.declared.Sizes.{Sizes}
use Rattle.archive.specs.Calls.{Call, encode, lose, repair, answer_for, archive_answer, effect_for, archive_after, archive_answers, archive_run}
use Rattle.archive.specs.Gather.{gather_for, gather_answer, gathered, gather_after}
use Rattle.archive.proofs.GatheredLaws.{same_front}
use Rattle.promise.specs.Table.{empty, filled, Table, written, table_answer, table_effect, table_after, table_answers, table_run}
use Rattle.promise.specs.Image.{image}
use Rattle.promise.specs.Demand3.{Given, setting, TakesOne, Admitted}
use Rattle.promise.specs.Shares.{table_gather, table_gathered}
use Rattle.promise.proofs.ImageLaws.{Fit, image_sizes, image_id, image_good, image_filled, image_byte, image_front, image_stored, image_repaired}

-- node and place are there; target and helpers are there
encode_there : (z : Sizes) (node place : ℕ) → any_of (leb z.nodes node ∷ leb z.places place ∷ []) ≡ false → (node < z.nodes) × (place < z.places)
encode_there z node place e = (leb-false z.nodes node (none_at _ 0 e), leb-false z.places place (none_at _ 1 e))

repair_there : (z : Sizes) (target : ℕ) (helpers : List ℕ)
    → any_of (leb z.nodes target ∷ any_below (length helpers) (λ i. leb z.nodes (at helpers i)) ∷ []) ≡ false
    → (target < z.nodes) × ((i : ℕ) → i < length helpers → at helpers i < z.nodes)
repair_there z target helpers e = (
  leb-false z.nodes target (none_at _ 0 e),
  λ i h. leb-false z.nodes (at helpers i) (any_below_lem (length helpers) _ (none_at _ 1 e) i h),
)

-- the same places filled, the same answer
answer_same : (z : Sizes) (f g : ℕ → ℕ → Bool) → ((node place : ℕ) → node < z.nodes → place < z.places → f node place ≡ g node place)
    → (c : Call) → answer_for z f c ≡ answer_for z g c
unfolding answer_for
answer_same z f g same (encode node place file padding key row) =
    refuse_same _ _ Length _ _ refl (λ _. refuse_same _ _ NoSuchPlace _ _ refl (λ n.
    refuse_same _ _ PlaceFilled _ _ (same node place (encode_there z node place n).0 (encode_there z node place n).1) (λ _. refl)))
answer_same z f g same (lose node) = refl
answer_same z f g same (repair target helpers q gammas thetas scratch) =
    refuse_same _ _ Size _ _ refl (λ _. refuse_same _ _ Length _ _ refl (λ _. refuse_same _ _ NoSuchPlace _ _ refl (λ n.
    let w : (target < z.nodes) × ((i : ℕ) → i < length helpers → at helpers i < z.nodes) = repair_there z target helpers n in
    refuse_same _ _ PlaceFilled _ _ (any_same z.places _ _ (λ k h. same target k w.0 h)) (λ _.
    refuse_same _ _ PlaceEmpty _ _
    (any_same (length helpers) _ _ (λ i h. any_same z.places _ _ (λ l hl. ap not (same (at helpers i) l (w.1 i h) hl)))) (λ _. refl)))))

-- so it is for Gather
gather_same : (z : Sizes) (f g : ℕ → ℕ → Bool) → ((node place : ℕ) → node < z.nodes → place < z.places → f node place ≡ g node place)
    → (node : ℕ) → gather_for z f node ≡ gather_for z g node
gather_same z f g same node =
    refuse_same _ _ NoSuchPlace _ _ refl (λ n.
    refuse_same _ _ PlaceFilled _ _ (any_same z.places _ _ (λ place h. same node place (leb-false z.nodes node n) h)) (λ _. refl))

module _ (g : Given) (F : Fit (setting g)) where
  -- ---- one call

  image_answer : (t : Table) (c : Call) → archive_answer (image (setting g) t) c ≡ table_answer g.z t c
  unfolding archive_answer refuse
  image_answer t c = rw (image_good (setting g) F t, image_sizes (setting g) F t) (answer_same g.z _ _ (image_filled (setting g) F t) c)

  image_effect : (t : Table) (c : Call) → table_answer g.z t c ≡ done → TakesOne g c
      → effect_for g.z g.id (image (setting g) t) c ≡ image (setting g) (table_effect g.z t c)
  unfolding effect_for answer_for
  image_effect t (encode node place file padding key row) e o =
      let w : (node < g.z.nodes) × (place < g.z.places) = encode_there g.z node place (accepted _ _ _ (accepted _ _ _ e).1).0 in
      rw (o.0, o.1, o.2)
      (image_stored (setting g) F t (λ j. true) node place 1 (λ j. filled row) _ w.0 (omega arith) (λ j h. refl) (λ j e h he. refl))
  image_effect t (lose node) e o =
      image_stored (setting g) F t (λ j. false) node 0 g.z.places (λ j. empty) (λ j e. 0) (leb-false g.z.nodes node (accepted _ _ _ e).0) (omega arith)
      (λ j h. refl) (λ j e h he. refl)
  image_effect t (repair target helpers q gammas thetas scratch) e o =
      let w : (target < g.z.nodes) × ((i : ℕ) → i < length helpers → at helpers i < g.z.nodes) =
      repair_there g.z target helpers (accepted _ _ _ (accepted _ _ _ (accepted _ _ _ e).1).1).0 in
      image_stored (setting g) F t (λ j. true) target 0 g.z.places _ _ w.0 (omega arith) (λ j h. refl)
      (λ k e h he. image_repaired (setting g) F t helpers q gammas thetas w.1 k e he)

  image_after : (t : Table) (c : Call) → (table_answer g.z t c ≡ done → TakesOne g c)
      → archive_after (image (setting g) t) c ≡ image (setting g) (table_after g.z t c)
  unfolding archive_after afterwards
  image_after t c o = rw (image_answer t c, image_sizes (setting g) F t, image_id (setting g) F t) (go (table_answer g.z t c) refl)
    where
      go : (a : Outcome) → table_answer g.z t c ≡ a
          → afterwards a (image (setting g) t) (effect_for g.z g.id (image (setting g) t) c) ≡ image (setting g) (afterwards a t (table_effect g.z t c))
      go (Ok _) e = image_effect t c e (o e)
      go (Err r) e = refl

  -- ---- a share gathered

  gather_answer_lem : (t u : Table) (node : ℕ) → gather_answer (image (setting g) t) (image (setting g) u) node ≡ table_gather g.z t node
  unfolding gather_answer
  gather_answer_lem t u node =
      passed _ _
      (any_skip _ _ (image_good (setting g) F t) ∙ any_skip _ _ (image_good (setting g) F u) ∙ any_last _
      ∙ same_front _ _ (image_front (setting g) F t u))
      ∙ rw (image_sizes (setting g) F t) (gather_same g.z _ _ (image_filled (setting g) F t) node)

  gather_effect : (t u : Table) (node : ℕ) → table_gather g.z t node ≡ done
      → gathered g.z (image (setting g) t) (image (setting g) u) node ≡ image (setting g) (written node 0 g.z.places (u node) t)
  gather_effect t u node e =
      let there : node < g.z.nodes = leb-false g.z.nodes node (accepted _ _ _ e).0 in
      image_stored (setting g) F t _ node 0 g.z.places (u node) _ there (omega arith)
      (λ place h. image_filled (setting g) F u node place there h) (λ place e h he. image_byte (setting g) F u node place e there h he)

  pub gathers : (t u : Table) (node : ℕ)
      → (gather_answer (image (setting g) t) (image (setting g) u) node ≡ table_gather g.z t node)
      × (gather_after (image (setting g) t) (image (setting g) u) node ≡ image (setting g) (table_gathered g.z t u node))
  unfolding gather_after afterwards
  gathers t u node =
      (gather_answer_lem t u node, rw (gather_answer_lem t u node, image_sizes (setting g) F t) (go (table_gather g.z t node) refl))
    where
      go : (a : Outcome) → table_gather g.z t node ≡ a
          → afterwards a (image (setting g) t) (gathered g.z (image (setting g) t) (image (setting g) u) node)
          ≡ image (setting g) (afterwards a t (written node 0 g.z.places (u node) t))
      go (Ok _) e = gather_effect t u node e
      go (Err r) e = refl

  -- ---- every list of calls

  pub runs : (t : Table) (calls : List Call) → Admitted g t calls
      → (archive_answers (image (setting g) t) calls ≡ table_answers g.z t calls)
      × (archive_run (image (setting g) t) calls ≡ image (setting g) (table_run g.z t calls))
  runs t [] a = (refl, refl)
  runs t (c ∷ cs) a =
      let w = runs (table_after g.z t c) cs a.1 in
      (rw (image_answer t c, image_after t c a.0, w.0), rw (image_after t c a.0) w.1)
