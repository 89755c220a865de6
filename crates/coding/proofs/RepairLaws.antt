-- What Repair's answer tells, and what it writes: the repair blocks, and the target's marks and records. Assumes nothing.
use Prim.Native.Nat.{ℕ, ◌+◌, ◌-◌, ◌*◌, ◌/◌, ◌%◌, ◌<◌, ◌≤◌}
use mathlib.Core.Path.{◌≡◌, refl, sym, ap, ◌∙◌}
use mathlib.Core.Bool.{Bool, true, false, ◌||◌}
use mathlib.Core.List.{List}
use native.Mathlib.Nat.{mul-le-mul, mul-le-mul_right, div-add-mod', div-lt_iff_lt-mul}
use native.Mathlib.Omega.{arith}
use lib.Dec.{leb}
use lib.ListN.{length}
use borrow.Author.Tests.{leb-false}
use Rattle.lists.specs.Lists.{at, grid, over, any_below}
use Rattle.lists.proofs.AnyLaws.{none_at, any_below_lem, or_false}
use Rattle.lists.proofs.PartLaws.{part, part_at}
use Rattle.lists.proofs.PutLaws.{grid_same, grid_all, flat_at}
use Rattle.answer.specs.Refusals.{Passed, outside}
use Rattle.answer.proofs.RefusalLaws.{accepted, same, inside}
use Rattle.field.proofs.SumLaws.{sum_same}
use Rattle.sizes.specs.declared.Sizes.{Sizes}
use Rattle.vector.specs.Vectors.{mixed}
use Rattle.vector.proofs.VectorLaws.{mixed_same, mixed_vectors}
use Rattle.sizes.proofs.SizeLaws.{Ranged}
use Rattle.sizes.specs.Lengths.{record_length, archive_length, record_start, place_number, record_most}
use Rattle.archive.specs.Layout.{sizes_of, id_of, mark_at, byte_in, bad_archive, with_marks, stored}
use Rattle.archive.specs.Calls.{repair, answer_for, archive_answer, effect_for}
use Rattle.archive.specs.Repair.{repair_byte, target_byte, scratch_made}
use Rattle.sizes.proofs.PlaceLaws.{number_low, number_mark, record_fits, node_in}
use Rattle.archive.proofs.GoodArchiveLaws.{good_sizes, good_length}
use Rattle.archive.proofs.RepairedLaws.{target_mixed}

-- ---- sizes

module _ (z : Sizes) (R : Ranged z) where
  record_in : (node place : ℕ) → node < z.nodes → place < z.places → record_start z (place_number z node place) + record_length z ≤ archive_length z
  record_in node place h hp = record_fits z (place_number z node place) (number_low z R node place h hp)

-- the first records of a node, one more than k
pub records_in : (z : Sizes) (node k : ℕ) {len n : ℕ} → len ≡ record_length z → node < z.nodes → k < z.places → n ≡ archive_length z
    → record_start z (node * z.places) + (k + 1) * len ≤ n
records_in z node k lens h hk long = rw lens (omega (arith, node_in z node h, mul-le-mul_right {m = k + 1} {n = z.places} (record_length z) (omega arith)))

-- record k of those from number `first` on
pub record_from : (z : Sizes) (first k : ℕ) {len : ℕ} → len ≡ record_length z → record_start z (first + k) ≡ record_start z first + k * len
record_from z first k e = rw e (omega arith)

-- ---- the answer

pub blocks_low : (p q : ℕ) → p ≤ 5 → q ≤ 8 → p * q ≤ 40
blocks_low p q a b = mul-le-mul {n₂ = 5} {m₂ = 8} a b

-- P and Q in their ranges
pub counts : {p-out q-out : Bool} (p q : ℕ) → p-out ≡ outside 1 5 p → q-out ≡ outside 1 8 q → (p-out || q-out) ≡ false → (p ≤ 5) × (q ≤ 8)
counts {p-out} {q-out} p q a b e =
    let w = or_false p-out q-out e in
    ((inside 1 5 p (sym a ∙ w.0)).1, (inside 1 8 q (sym b ∙ w.1)).1)

-- what is known where nothing is refused
pub record Repairable (z : Sizes) (s : List ℕ) (target : ℕ) (helpers : List ℕ) (q : ℕ) (gammas thetas : List ℕ) (scratch : ℕ) : Type 0 where
  pub good : bad_archive s ≡ false
  pub sizes : Ranged z
  pub long : length s ≡ archive_length z
  pub helpers_low : 1 ≤ length helpers
  pub helpers_high : length helpers ≤ 5
  pub q_low : 1 ≤ q
  pub q_high : q ≤ 8
  pub gammas_length : length gammas ≡ length helpers * q * z.places
  pub thetas_length : length thetas ≡ length helpers * q * z.places
  pub scratch_length : scratch ≡ length helpers * q * record_length z
  pub target_low : target < z.nodes
  pub present : any_below (length helpers) (λ i. leb z.nodes (at helpers i)) ≡ false

module _ (s : List ℕ) (target : ℕ) (helpers : List ℕ) (q : ℕ) (gammas thetas : List ℕ) (scratch : ℕ) where
  accepted_repair : Passed (archive_answer s (repair target helpers q gammas thetas scratch)) → Repairable (sizes_of s) s target helpers q gammas thetas scratch
  unfolding archive_answer answer_for
  accepted_repair ok =
      let a = accepted _ _ _ ok in
      let n = accepted _ _ _ a.1 in
      let P = inside 1 5 (length helpers) (none_at _ 0 n.0) in
      let Q = inside 1 8 q (none_at _ 1 n.0) in
      let l = accepted _ _ _ n.1 in
      let p = (accepted _ _ _ l.1).0 in
      record {
        good = a.0;
        sizes = good_sizes s a.0;
        long = good_length s a.0;
        helpers_low = P.0;
        helpers_high = P.1;
        q_low = Q.0;
        q_high = Q.1;
        gammas_length = same _ _ (none_at _ 0 l.0);
        thetas_length = same _ _ (none_at _ 1 l.0);
        scratch_length = same _ _ (none_at _ 2 l.0);
        target_low = leb-false _ _ (none_at _ 0 p);
        present = none_at _ 1 p;
      }

  -- for the sizes as they were read
  pub repairable : {z : Sizes} → z ≡ sizes_of s → Passed (archive_answer s (repair target helpers q gammas thetas scratch))
      → Repairable z s target helpers q gammas thetas scratch
  repairable read ok = rw read (accepted_repair ok)

-- ---- the repair blocks

-- what is known where they are made
pub record Blocks (z : Sizes) (s helpers : List ℕ) (q : ℕ) (gammas scratch : List ℕ) (len : ℕ) : Type 0 where
  pub sizes : Ranged z
  pub long : length s ≡ archive_length z
  pub len_is : len ≡ record_length z
  pub q_low : 1 ≤ q
  pub count : length helpers * q ≤ 40
  pub nodes : (i : ℕ) → i < length helpers → at helpers i < z.nodes
  pub gammas_length : length gammas ≡ length helpers * q * z.places
  pub scratch_length : length scratch ≡ length helpers * q * len

-- where the coefficients, the records and the block of number t stand; h is its helper
pub record Turn (z : Sizes) (s gammas scratch : List ℕ) (len t h : ℕ) : Type 0 where
  pub number : h * z.places < 48
  pub records : record_start z (h * z.places) + z.places * len ≤ length s
  pub first_low : t * z.places ≤ 40 * 8
  pub coefficients : t * z.places + z.places ≤ length gammas
  pub start_low : t * len ≤ 40 * record_most
  pub block : t * len + len ≤ length scratch

pub blocks_known : {z : Sizes} {s : List ℕ} (helpers : List ℕ) (q : ℕ) (gammas scratch : List ℕ) {len : ℕ} → z ≡ sizes_of s → len ≡ record_length z → bad_archive s ≡ false
    → 1 ≤ q → q ≤ 8 → length helpers ≤ 5 → any_below (length helpers) (λ i. leb (sizes_of s).nodes (at helpers i)) ≡ false
    → length gammas ≡ length helpers * q * (sizes_of s).places → length scratch ≡ length helpers * q * record_length (sizes_of s) → Blocks z s helpers q gammas scratch len
blocks_known {s = s} helpers q gammas scratch read lens good low high few present coefficients blocks =
    record {
      sizes = rw read (good_sizes s good);
      long = rw read (good_length s good);
      len_is = lens;
      q_low = low;
      count = blocks_low (length helpers) q few high;
      nodes = λ i h. rw read (leb-false _ _ (any_below_lem _ _ present i h));
      gammas_length = rw read coefficients;
      scratch_length = rw (lens, read) blocks;
    }

module _ {z : Sizes} {s helpers : List ℕ} {q : ℕ} {gammas scratch : List ℕ} {len : ℕ} (known : Blocks z s helpers q gammas scratch len) where
  pub helper_in : (t : ℕ) → t < length helpers * q → t / q < length helpers
  helper_in t l = (div-lt_iff_lt-mul {k = q} known.q_low).1 l

  pub turn : (t : ℕ) {h : ℕ} → t < length helpers * q → h ≡ at helpers (t / q) → Turn z s gammas scratch len t h
  turn t {h} l is =
      let node : h < z.nodes = rw is (known.nodes (t / q) (helper_in t l)) in
      let R : Ranged z = known.sizes in
      record {
        number = omega (arith, number_mark z R h 0 node R.places_low);
        records = rw known.len_is (omega (arith, node_in z h node, known.long));
        first_low = mul-le-mul {n₂ = 40} {m₂ = 8} (omega (arith, known.count)) R.places_high;
        coefficients = omega (arith, mul-le-mul_right z.places l, known.gammas_length);
        start_low = mul-le-mul {n₂ = 40} {m₂ = record_most} (omega (arith, known.count)) (omega (arith, known.len_is, R.n_high, R.m_high));
        block = omega (arith, mul-le-mul_right len l, known.scratch_length);
      }

  -- block t, as the code finds its coefficients and records
  pub block_made : (t e : ℕ) {first h : ℕ} → e < len → h ≡ at helpers (t / q) → first ≡ record_start z (h * z.places)
      → mixed z.places (λ l. at (part (t * z.places) ((t + 1) * z.places) gammas) (l * 1)) (λ l e. at (part first (first + z.places * len) s) (l * len + e)) e
      ≡ repair_byte z s helpers q gammas (t / q) (t % q) e
  unfolding mixed repair_byte byte_in
  block_made t e {first} low is starts =
      sum_same z.places _ _ (λ l k.
      let c : at (part (t * z.places) ((t + 1) * z.places) gammas) (l * 1) ≡ at gammas ((t / q * q + t % q) * z.places + l) =
      part_at (t * z.places) ((t + 1) * z.places) gammas (l * 1) (omega arith) ∙ ap (at gammas) (rw (div-add-mod' t q) (omega arith)) in
      let in_part : l * len + e < first + z.places * len - first = omega (arith, mul-le-mul_right {m = l + 1} {n = z.places} len (omega arith)) in
      let v : at (part first (first + z.places * len) s) (l * len + e) ≡ at s (record_start z (place_number z (at helpers (t / q)) l) + e) =
      part_at first (first + z.places * len) s (l * len + e) in_part ∙ ap (at s) (rw (starts, known.len_is, is) (omega arith)) in
      rw (c, v) refl)

  -- all blocks are made
  pub blocks_made : {made : List ℕ} {t : ℕ} → z ≡ sizes_of s → t ≡ length helpers * q
      → made ≡ grid t len 0 (λ i. repair_byte z s helpers q gammas (i / q) (i % q)) scratch → made ≡ scratch_made (sizes_of s) s helpers q gammas
  unfolding scratch_made
  blocks_made read all made =
      let lens : len ≡ record_length (sizes_of s) = known.len_is ∙ ap record_length read in
      made ∙ rw (all, read, lens) (grid_all (length helpers * q) (record_length (sizes_of s)) _ scratch (rw (← lens) known.scratch_length))

-- ---- the target's records

-- place k of the target: its number, its record, where its coefficients begin and end
pub record Place (z : Sizes) (s thetas : List ℕ) (count target k : ℕ) : Type 0 where
  pub number : target * z.places + k < 48
  pub fits : record_start z (target * z.places + k) + record_length z ≤ length s
  pub first : k ≤ length thetas
  pub last : (count - 1) * z.places + k < length thetas

pub place : {z : Sizes} {s helpers gammas thetas : List ℕ} {target q scratch : ℕ} (ok : Repairable z s target helpers q gammas thetas scratch) (k : ℕ) → k < z.places
    → Place z s thetas (length helpers * q) target k
place {z} {helpers = helpers} {target = target} {q = q} ok k low =
    let some : 1 ≤ length helpers * q = mul-le-mul {n₁ = 1} {m₁ = 1} ok.helpers_low ok.q_low in
    let count = length helpers * q in
    let end : (count - 1) * z.places + k < count * z.places = omega (arith, mul-le-mul_right {m = count - 1 + 1} {n = count} z.places (omega arith)) in
    record {
      number = number_mark z ok.sizes target k ok.target_low low;
      fits = omega (arith, record_in z ok.sizes target k ok.target_low low, ok.long);
      first = omega (arith, end, ok.thetas_length);
      last = omega (arith, end, ok.thetas_length);
    }

-- record k, as the code finds its coefficients
pub record_made : (count places len k e : ℕ) (thetas scratch : List ℕ) → k < places → length thetas ≡ count * places
    → mixed count (λ t. at (part k (length thetas) thetas) (t * places)) (λ t e. at scratch (t * len + e)) e
    ≡ mixed count (λ t. at thetas (t * places + k)) (λ t e. at scratch (t * len + e)) e
record_made count places len k e thetas scratch low long =
    mixed_same count _ _ (λ t e. at scratch (t * len + e)) e (λ t h.
    part_at k (length thetas) thetas (t * places) (omega (arith, mul-le-mul_right {m = t + 1} {n = count} places (omega arith))) ∙ ap (at thetas) (omega arith))

module _ (z : Sizes) (s helpers : List ℕ) (q : ℕ) (gammas thetas : List ℕ) where
  -- the combination of the blocks in a row is that of the definition, helper by helper
  target_made : (k e : ℕ) {made : List ℕ} → 1 ≤ q → e < record_length z → made ≡ scratch_made z s helpers q gammas
      → mixed (length helpers * q) (λ t. at thetas (t * z.places + k)) (λ t e. at made (t * record_length z + e)) e
      ≡ target_byte z s helpers q gammas thetas k e
  unfolding scratch_made
  target_made k e {made = made} low he blocks =
      mixed_vectors (length helpers * q) _ _ (λ t. repair_byte z s helpers q gammas (t / q) (t % q)) e
      (λ t h. ap (λ (l : List ℕ). at l (t * record_length z + e)) blocks ∙ flat_at (length helpers * q) (record_length z) _ t e h he)
      ∙ target_mixed z s helpers q gammas thetas k e low

  -- the marks set, and then the records
  target_effect : (target scratch : ℕ) → grid z.places (record_length z) (record_start z (target * z.places)) (target_byte z s helpers q gammas thetas)
      (with_marks (over (target * z.places) z.places (λ i. true) (mark_at s)) s)
      ≡ effect_for z (id_of s) s (repair target helpers q gammas thetas scratch)
  unfolding effect_for stored
  target_effect target scratch =
      let first : place_number z target 0 ≡ target * z.places = omega arith in
      rw first

  -- the steps of the code: the sizes read, the blocks made, the marks set, the records written
  pub target_filled : (target scratch : ℕ) {made u w : List ℕ} → z ≡ sizes_of s → 1 ≤ q → made ≡ scratch_made (sizes_of s) s helpers q gammas
      → u ≡ with_marks (over (target * z.places) z.places (λ i. true) (mark_at s)) s
      → w ≡ grid z.places (record_length z) (record_start z (target * z.places))
      (λ k. mixed (length helpers * q) (λ t. at thetas (t * z.places + k)) (λ t e. at made (t * record_length z + e))) u
      → w ≡ effect_for (sizes_of s) (id_of s) s (repair target helpers q gammas thetas scratch)
  target_filled target scratch {made} read low blocks marks records =
      records ∙ ap (grid _ _ _ _) marks
      ∙ grid_same z.places (record_length z) (record_start z (target * z.places)) _ (target_byte z s helpers q gammas thetas) _
      (λ k e h he. target_made k e {made = made} low he (rw read blocks))
      ∙ target_effect target scratch ∙ ap (λ (x : Sizes). effect_for x (id_of s) s (repair target helpers q gammas thetas scratch)) read
