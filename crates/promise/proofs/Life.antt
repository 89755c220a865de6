-- Both lives in numbers, by demand 3 and by computing. Assumes nothing.
use Prim.Native.Nat.{ℕ, zero, suc, ◌+◌, ◌*◌, ◌<◌, ◌≤◌}
use mathlib.Core.Path.{◌≡◌, refl, sym, ap, subst, ◌∙◌}
use mathlib.Core.Bool.{true}
use mathlib.Core.List.{List, [], ◌∷◌}
use native.Mathlib.Omega.{arith}
use lib.Dec.{lit≤}
use lib.ListN.{length, take, drop}
use borrow.Author.Tests.{lt-leb}
use Rattle.lists.specs.Lists.{at, tab, zero_padded, flat, over, any_of, any_below, how_many, filtered}
use Rattle.lists.proofs.TabLaws.{length_tab, tab_at}
use Rattle.lists.proofs.PutLaws.{flat_at}
use Rattle.answer.specs.Answer.{done, Ok, Err}
use Rattle.answer.specs.declared.Refusal.TheVariants.{Length, NoSuchPlace, PlaceEmpty, PlaceFilled}
use Rattle.answer.specs.Refusals.{refuse, afterwards, outside}
use Rattle.answer.proofs.RefusalLaws.{after_done}
use Rattle.field.specs.Field.{sum, modulus, xtime, xtimes, times}
use Rattle.keystream.specs.ChaCha.{half, quarter_of, set_four, quarter, quadruples, quarters_to, rounds, block_words, serialised, word_at, start, block_of}
use Rattle.keystream.specs.Draws.{byte_at}
use Rattle.bits.specs.Fields.{bit_of, bits_of, widths, number, packed, pack}
use Rattle.sizes.specs.Sizes.{sizes_outside}
use Rattle.sizes.specs.Lengths.{archive_length, response_length}
use Rattle.vector.specs.Vectors.{product, mixed, all_zero}
use Rattle.tag.specs.KeyVector.{F1, key_vector, with_tags}
use Rattle.tag.specs.Vector.{vector_answer, vector_out}
use Rattle.mask.specs.Masks.{F2, F3, mask_row, mask_coefficient, auxiliary, mask, mask_sum}
use Rattle.mask.specs.Setup.{setup_answer, setup_out}
use Rattle.message.specs.Response.{response_bytes}
use Rattle.message.proofs.ResponseLaws.{response_same}
use Rattle.vector.proofs.VectorLaws.{product_keys}
use Rattle.message.specs.Challenge.{Challenge, items, challenge_bytes, out_of_rule, challenge_answer, challenge_out}
use Rattle.archive.specs.Layout.{layout_outside, tag_field, archive_of}
use Rattle.archive.specs.Open.{open_answer, open_out}
use Rattle.archive.specs.Blocks.{source, coded, coded_record}
use Rattle.archive.specs.Calls.{encode, answer_for, archive_answers, archive_run}
use Rattle.archive.specs.Gather.{gather_answer, gather_after}
use Rattle.archive.specs.Prove.{response_for}
use Rattle.archive.specs.Inventory.{shelf}
use Rattle.promise.specs.Table.{Table, all_empty, is_filled, element, numbered, repaired_row, written, table_answers, table_run}
use Rattle.promise.specs.Image.{image}
use Rattle.promise.specs.Demand3.{Given, TakesOne, Admitted, setting, given_auxiliary, Honest, message, Telling, Silent, named_block, expected, table_filled, Demand}
use Rattle.promise.specs.Fresh.{fresh_calls}
use Rattle.promise.specs.Life as L
use Rattle.promise.specs.Life.{Numbers, calls, table, archive, alone, Shared, Lived}
use Rattle.promise.proofs.ImageLaws.{record_over, image_over}
use Rattle.promise.proofs.DemandLaws.{demand3, from_new, run_is}
use Rattle.promise.proofs.FreshLaws.{reopens}
use Rattle.promise.proofs.Each.{Each, each, bytes_each}
use Rattle.promise.proofs.LifeLosses.{LossesAre, losses_are}
use Rattle.promise.proofs.LifeShares.{shared, Joined, joined}

-- ---- what is computed, of both lives

abbrev pub Opens : Numbers → Type 0
Opens w = open_answer w.layout (L.z w.tags) L.id (L.lent w.tags) ≡ done

pub opens : Opens L.one × Opens L.three
unfolding open_answer layout_outside refuse sizes_outside outside any_of tab
opens = (refl, refl)

abbrev pub SetsUp : Numbers → Type 0
SetsUp w = setup_answer L.tag_key L.mask_key L.id 3 w.tags (L.lent_auxiliary w.tags) ≡ done

pub sets_up : SetsUp L.one × SetsUp L.three
unfolding setup_answer all_zero refuse outside any_of any_below tab key_vector F1 byte_at half quarter_of set_four quarter quadruples quarters_to rounds block_words serialised word_at start block_of
sets_up = (refl, refl)

abbrev Answers : Numbers → Type 0
Answers w =
    table_answers (L.z w.tags) all_empty (calls w.tags)
    ≡ done ∷ Err PlaceFilled ∷ done ∷ Err Length ∷ done ∷ Err PlaceEmpty ∷ done ∷ Err NoSuchPlace ∷ done ∷ done ∷ []

-- the tables after the Encodes of a fresh archive, after those for node 1 alone, and after those for node 2 alone; the answers of the first
abbrev fresh_table : (tags : ℕ) → Table
fresh_table tags = table_run (L.z tags) all_empty L.encodes

abbrev one_table : (tags : ℕ) → Table
one_table tags = table_run (L.z tags) all_empty (take 2 L.encodes)

abbrev two_table : (tags : ℕ) → Table
two_table tags = table_run (L.z tags) all_empty (drop 2 L.encodes)

abbrev FreshAnswers : Numbers → Type 0
FreshAnswers w = table_answers (L.z w.tags) all_empty L.encodes ≡ done ∷ done ∷ done ∷ done ∷ []

table_answers_lem : (Answers L.one × FreshAnswers L.one) × (Answers L.three × FreshAnswers L.three)
unfolding answer_for refuse any_of any_below outside afterwards written over
table_answers_lem = ((refl, refl), (refl, refl))

-- the places of a list are filled
abbrev AllFilled : ℕ → ℕ → List ℕ → Type 0
AllFilled tags node = Each (λ place. is_filled (table tags node place) ≡ true)

-- both places of node 2, and place 1 of node 1
abbrev Filled : Numbers → Type 0
Filled w = AllFilled w.tags 2 (0 ∷ 1 ∷ []) × AllFilled w.tags 1 (1 ∷ [])

all_filled : Filled L.one × Filled L.three
unfolding answer_for refuse any_of any_below outside afterwards written over
all_filled = (((refl, (refl, tt)), (refl, tt)), ((refl, (refl, tt)), (refl, tt)))

-- of the two rows that are combined, one element that is not zero and two that are
abbrev Rows : Numbers → Type 0
Rows w =
    (mixed 2 (at (0x07 ∷ 0xb5 ∷ [])) (λ j. element (table w.tags 2 (at (0 ∷ 1 ∷ []) j))) 0 ≡ 0xc8)
    × (mixed 1 (at (0x01 ∷ [])) (λ j. element (table w.tags 1 (at (1 ∷ []) j))) 0 ≡ 0x00)
    × (mixed 1 (at (0x01 ∷ [])) (λ j. element (table w.tags 1 (at (1 ∷ []) j))) 1 ≡ 0x00)

rows : Rows L.one × Rows L.three
unfolding answer_for refuse any_of any_below outside afterwards written over repaired_row mixed sum times xtimes xtime modulus tab
rows = ((refl, refl, refl), (refl, refl, refl))

-- the table's filled places: their number, and their list in shelf order
abbrev Shelf : Numbers → Type 0
Shelf w =
    (how_many 6 (table_filled (L.z w.tags) (table w.tags)) ≡ 4)
    × (shelf (L.z w.tags) (table_filled (L.z w.tags) (table w.tags)) ≡ 0x08 ∷ 0x09 ∷ 0x10 ∷ 0x11 ∷ 0x00 ∷ 0x00 ∷ [])

shelves : Shelf L.one × Shelf L.three
unfolding how_many shelf zero_padded filtered numbered answer_for refuse any_of any_below outside afterwards written over tab
shelves = ((refl, refl), (refl, refl))

abbrev Vectors : Numbers → Type 0
Vectors w = flat w.tags 5 (λ s. at (vector_out L.tag_key L.id 3 2 s (tab 5 (λ i. 0)))) ≡ w.vector_bytes

vectors : Vectors L.one × Vectors L.three
unfolding vector_out vector_answer afterwards refuse outside any_of tab flat key_vector F1 byte_at half quarter_of set_four quarter quadruples quarters_to rounds block_words serialised word_at start block_of
vectors = (refl, refl)

-- an element of what Vector writes is that of the key vector
vector_done : (s : ℕ) → s < 10 → vector_answer L.tag_key L.id 3 2 s (tab 5 (λ i. 0)) ≡ done
unfolding vector_answer refuse outside any_of tab
vector_done s h = rw (lt-leb 10 s h)

vector_element : (s e : ℕ) → s < 10 → e < 5 → at (vector_out L.tag_key L.id 3 2 s (tab 5 (λ i. 0))) e ≡ key_vector L.tag_key L.id s e
unfolding vector_out
vector_element s e h he = ap (λ (x : List ℕ). at x e) (after_done _ _ (vector_done s h)) ∙ tab_at 5 (key_vector L.tag_key L.id s) e he

-- ---- the premises

abbrev asking : Challenge
asking = record { node = 2; places = 0 ∷ 1 ∷ []; coefficients = 0x07 ∷ 0xb5 ∷ [] }

abbrev asking_nothing : Challenge
asking_nothing = record { node = 1; places = 1 ∷ []; coefficients = 0x01 ∷ [] }

asked : (challenge_answer asking (tab 5 (λ i. 0)) ≡ done) × (challenge_answer asking_nothing (tab 3 (λ i. 0)) ≡ done)
unfolding challenge_answer refuse out_of_rule outside any_of any_below tab
asked = (refl, refl)

module _ (w : Numbers) (o : Opens w) (u : SetsUp w) where
  abbrev pub lives : Given
  lives = L.given w.layout w.tags o u (bytes_each (0x57 ∷ 0x01 ∷ []) (omega arith, (omega arith, tt)))

  life_admitted : Admitted lives all_empty (calls w.tags)
  unfolding answer_for refuse any_of any_below outside afterwards written over
  life_admitted = (
    λ e. (refl, refl, refl, bytes_each (0x01 ∷ 0x00 ∷ []) (omega arith, (omega arith, tt))),
    (
      λ e. let x : ◌≡◌ {A = ℕ} 0 1 = cc in absurd (omega arith),
      (
        λ e. (refl, refl, refl, bytes_each (0x02 ∷ 0x03 ∷ []) (omega arith, (omega arith, tt))),
        (
          λ e. let x : ◌≡◌ {A = ℕ} 0 1 = cc in absurd (omega arith),
          (
            λ e. (refl, refl, refl, bytes_each (0x53 ∷ 0xca ∷ []) (omega arith, (omega arith, tt))),
            (
              λ e. tt,
              (
                λ e. (refl, refl, refl, bytes_each (0x00 ∷ 0x00 ∷ []) (omega arith, (omega arith, tt))),
                (λ e. tt, (λ e. tt, (λ e. tt, tt))),
              ),
            ),
          ),
        ),
      ),
    ),
  )

  -- ---- the audits

  -- by a challenge, with one seed
  abbrev audit_by : (c : Challenge) (lent : List ℕ) → challenge_answer c lent ≡ done → Each (λ x. x < 256) c.coefficients → c.node < 3
      → Each (λ x. x < 2) c.places → AllFilled w.tags c.node c.places → Honest lives (table w.tags)
  audit_by c lent asked bytes node places filled =
      record {
        c = c;
        lent = lent;
        asked = asked;
        coefficients_bytes = bytes_each c.coefficients bytes;
        node_there = node;
        places_there = each (λ x. x < 2) c.places places;
        places_filled = each (λ place. is_filled (table w.tags c.node place) ≡ true) c.places filled;
        seed = 0 ∷ 20 ∷ 40 ∷ 60 ∷ 80 ∷ 100 ∷ 120 ∷ 140 ∷ 160 ∷ 180 ∷ 200 ∷ [];
        seed_size = refl;
        out = tab (response_length 3 w.tags) (λ i. 0);
        out_size = length_tab (response_length 3 w.tags) (λ i. 0);
      }

  abbrev audited : Filled w → Honest lives (table w.tags)
  audited f = audit_by asking (tab 5 (λ i. 0)) asked.0 (omega arith, (omega arith, tt)) (omega arith) (omega arith, (omega arith, tt)) f.0

  abbrev audited_silent : Filled w → Honest lives (table w.tags)
  audited_silent f = audit_by asking_nothing (tab 3 (λ i. 0)) asked.1 (omega arith, tt) (omega arith) (omega arith, tt) f.1

  silent_row : Rows w → (f : Filled w) → Silent lives (table w.tags) (archive w.layout w.tags) (audited_silent f)
  silent_row r f zero h = r.1
  silent_row r f (suc zero) h = r.2
  silent_row r f (suc (suc i)) h = absurd (omega arith)

  messages : (f : Filled w)
      → (message lives (table w.tags) (archive w.layout w.tags) (audited f) ≡ 0x14 ∷ 0x40 ∷ 0x1c ∷ 0xda ∷ 0x80 ∷ [])
      × (message lives (table w.tags) (archive w.layout w.tags) (audited_silent f) ≡ 0x12 ∷ 0x24 ∷ 0x04 ∷ [])
  unfolding challenge_out afterwards challenge_answer refuse out_of_rule outside any_of any_below tab challenge_bytes items pack packed bits_of bit_of widths number
  messages f = (refl, refl)

  -- the image of the table after the calls, Setup's elements and the response: also computed
  abbrev Image : Table → List ℕ → Type 0
  Image t bytes = image (setting lives) t ≡ bytes

  -- what nodes 1 and 2 alone leave
  abbrev one_bytes : List ℕ
  one_bytes = alone w.tags 0x30 1 w.archive_bytes

  abbrev two_bytes : List ℕ
  two_bytes = alone w.tags 0x0c 2 w.archive_bytes

  abbrev Images : Type 0
  Images =
      Image (table w.tags) w.archive_bytes × Image (fresh_table w.tags) w.archive_bytes × Image (one_table w.tags) one_bytes
      × Image (two_table w.tags) two_bytes

  abbrev Elements : Type 0
  Elements = given_auxiliary lives ≡ w.auxiliary_bytes

  abbrev FreshCalls : Type 0
  FreshCalls = fresh_calls (setting lives) (table w.tags) ≡ L.encodes

  -- each of the Encodes takes the one file, and a row of bytes; so any of them are admitted
  takes : (node place a b : ℕ) → a < 256 → b < 256 → TakesOne lives (encode node place L.file L.padding L.tag_key (a ∷ b ∷ []))
  takes node place a b la lb = (refl, refl, refl, bytes_each (a ∷ b ∷ []) (la, (lb, tt)))

  one_admitted : Admitted lives all_empty (take 2 L.encodes)
  one_admitted = (λ e. takes 1 0 0x53 0xca (omega arith) (omega arith), (λ e. takes 1 1 0x00 0x00 (omega arith) (omega arith), tt))

  two_admitted : (t : Table) → Admitted lives t (drop 2 L.encodes)
  two_admitted t = (λ e. takes 2 0 0xf3 0xfe (omega arith) (omega arith), (λ e. takes 2 1 0x72 0xfb (omega arith) (omega arith), tt))

  encodes_admitted : Admitted lives all_empty L.encodes
  encodes_admitted = (one_admitted.0, (one_admitted.1.0, two_admitted (one_table w.tags)))

  -- the fresh archive from its own table, not by way of the life's
  fresh : FreshAnswers w → Image (fresh_table w.tags) w.archive_bytes → (lent : List ℕ) → length lent ≡ archive_length (L.z w.tags)
      → (archive_answers (open_out w.layout (L.z w.tags) L.id lent) L.encodes ≡ done ∷ done ∷ done ∷ done ∷ [])
      × (archive_run (open_out w.layout (L.z w.tags) L.id lent) L.encodes ≡ w.archive_bytes)
  fresh answers image lent long =
      let made = from_new lives lent (reopens lives lent long) L.encodes encodes_admitted in (made.0 ∙ answers, made.1 ∙ image)

  merged : Joined w → Image (one_table w.tags) one_bytes → Image (two_table w.tags) two_bytes
      → (lent : List ℕ) → length lent ≡ archive_length (L.z w.tags)
      → (gather_answer (archive_run (open_out w.layout (L.z w.tags) L.id lent) (take 2 L.encodes))
      (archive_run (open_out w.layout (L.z w.tags) L.id lent) (drop 2 L.encodes)) 2 ≡ done)
      × (gather_after (archive_run (open_out w.layout (L.z w.tags) L.id lent) (take 2 L.encodes))
      (archive_run (open_out w.layout (L.z w.tags) L.id lent) (drop 2 L.encodes)) 2 ≡ w.archive_bytes)
  merged joins first second lent long =
      rw (
        (from_new lives lent (reopens lives lent long) (take 2 L.encodes) one_admitted).1 ∙ first,
        (from_new lives lent (reopens lives lent long) (drop 2 L.encodes) (two_admitted all_empty)).1 ∙ second,
      )
      joins

  abbrev Expected : Filled w → Type 0
  Expected f = expected lives (table w.tags) (archive w.layout w.tags) (audited f) ≡ w.response_bytes

  module _ (v : Vectors w) (few : w.tags ≤ 10) where
    vector_same : (k e : ℕ) → k < w.tags → e < 5 → key_vector L.tag_key L.id k e ≡ at w.vector_bytes (k * 5 + e)
    vector_same k e h he =
        sym (vector_element k e (omega arith) he) ∙ sym (flat_at w.tags 5 _ k e h he) ∙ ap (λ (x : List ℕ). at x (k * 5 + e)) v

    abbrev ImageOver : Table → List ℕ → Type 0
    ImageOver t bytes =
        archive_of w.layout (L.z w.tags) L.id (λ k. is_filled (numbered (L.z w.tags) t k))
        (λ k. record_over (setting lives) (λ s e. at w.vector_bytes (s * 5 + e)) vector_same (numbered (L.z w.tags) t k))
        ≡ bytes

    -- of the table after the calls, of that after the Encodes alone, and of those after the Encodes of one node
    abbrev ImagesOver : Type 0
    ImagesOver =
        ImageOver (table w.tags) w.archive_bytes × ImageOver (fresh_table w.tags) w.archive_bytes × ImageOver (one_table w.tags) one_bytes
        × ImageOver (two_table w.tags) two_bytes

    image_of : (t : Table) (bytes : List ℕ) → ImageOver t bytes → Image t bytes
    image_of t bytes e = image_over (setting lives) (λ s e. at w.vector_bytes (s * 5 + e)) vector_same t ∙ e

    images_of : ImagesOver → Images
    images_of e = (image_of _ _ e.0, image_of _ _ e.1, image_of _ _ e.2, image_of _ _ e.3)

    module _ (f : Filled w) where
      abbrev block : ℕ → ℕ
      block = named_block lives (table w.tags) (archive w.layout w.tags) (audited f)

      abbrev ExpectedOver : Type 0
      ExpectedOver =
          response_for 3 w.tags L.id L.mask_key w.auxiliary_bytes (audited f).seed 2 block
          (λ s. product 5 block (λ e. at w.vector_bytes (s * 5 + e)))
          ≡ w.response_bytes

      expected_of : Elements → ExpectedOver → Expected f
      unfolding response_for
      expected_of e o =
          ap (λ (x : List ℕ). expected_by x) e
          ∙ response_same 3 w.tags 2 block block _ _ _ (audited f).seed _ (omega arith) (λ i h. refl)
          (λ s h. product_keys 5 block _ _ (λ i hi. vector_same s i h hi))
          ∙ o
        where
          expected_by : List ℕ → List ℕ
          expected_by x = response_for 3 w.tags L.id L.mask_key x (audited f).seed 2 block (λ s. product 5 block (key_vector L.tag_key L.id s))

  life : Answers w × FreshAnswers w → (f : Filled w) → Rows w → Shelf w → Vectors w → Images → FreshCalls → Elements → Expected f → LossesAre w.archive_bytes → Shared w w.archive_bytes
      → Joined w → Lived w
  life answers f rows shelved vectors images fresh_encodes elements response losses shared joins =
      let d : Demand lives (calls w.tags) (table w.tags) (archive w.layout w.tags) = demand3 lives (calls w.tags) life_admitted in
      let sends = (d.audits (audited f)).sends ∙ response in
      let telling : Telling lives (table w.tags) (archive w.layout w.tags) (audited f) =
      record { one = 0; one_there = omega arith; one_not = λ e. let x : ◌≡◌ {A = ℕ} 0xc8 0 = sym rows.0 ∙ e in omega arith } in
      let left : archive w.layout w.tags ≡ w.archive_bytes = run_is lives (calls w.tags) life_admitted ∙ images.0 in
      record {
        opens = o;
        sets_up = u;
        file_bytes = bytes_each (0x57 ∷ 0x01 ∷ []) (omega arith, (omega arith, tt));
        admitted = life_admitted;
        answers = d.answers ∙ answers.0;
        archive_is = left;
        fresh_encodes = fresh_encodes;
        fresh_is = fresh answers.1 images.1;
        shared = subst (Shared w) (sym left) shared;
        merged = merged joins images.2 images.3;
        inventory_is = λ out e. let i = (d.inventory out).0 e in (i.0 ∙ ap Ok shelved.0, i.1 ∙ shelved.1);
        losses_are = subst LossesAre (sym left) losses;
        vectors_are = vectors;
        auxiliary_are = elements;
        audit = audited f;
        message_is = (messages f).0;
        sent_is = sends;
        telling = telling;
        accepted = rw (← sends) ((d.audits (audited f)).accepts telling);
        silent_audit = audited_silent f;
        silent_message = (messages f).1;
        silent = silent_row rows f;
        unproved = d.unproved (audited_silent f) (silent_row rows f) _ refl refl;
      }

abbrev pub given : Given
given = lives L.one opens.0 sets_up.0

-- the images are computed over the vectors' bytes
images_over : ImagesOver L.one opens.0 sets_up.0 vectors.0 (lit≤ tt) × ImagesOver L.three opens.1 sets_up.1 vectors.1 (lit≤ tt)
unfolding archive_of tag_field packed pack bits_of bit_of widths number flat tab numbered answer_for refuse any_of any_below outside afterwards written over repaired_row coded_record coded source with_tags product mixed sum times xtimes xtime modulus
images_over = ((refl, refl, refl, refl), (refl, refl, refl, refl))

-- the calls that a fresh archive takes
fresh_calls_are : FreshCalls L.one opens.0 sets_up.0 × FreshCalls L.three opens.1 sets_up.1
unfolding answer_for refuse any_of any_below outside afterwards written over repaired_row sum times xtimes xtime modulus tab
fresh_calls_are = (refl, refl)

elements : Elements L.one opens.0 sets_up.0 × Elements L.three opens.1 sets_up.1
unfolding setup_out afterwards setup_answer all_zero refuse outside any_of any_below auxiliary mask_row F2 product flat tab key_vector F1 byte_at half quarter_of set_four quarter quadruples quarters_to rounds block_words serialised word_at start block_of sum times xtimes xtime modulus
elements = (refl, refl)

-- and so are the responses, over Setup's bytes too
responses_over : ExpectedOver L.one opens.0 sets_up.0 vectors.0 (lit≤ tt) all_filled.0
    × ExpectedOver L.three opens.1 sets_up.1 vectors.1 (lit≤ tt) all_filled.1
unfolding response_for response_bytes mask mask_sum mask_coefficient F3 answer_for written over repaired_row coded source mixed afterwards refuse outside any_of any_below mask_row F2 product tab pack packed bits_of bit_of widths number byte_at half quarter_of set_four quarter quadruples quarters_to rounds block_words serialised word_at start block_of sum times xtimes xtime modulus
responses_over = (refl, refl)

pub lived : Lived L.one × Lived L.three
lived = (
  life L.one opens.0 sets_up.0 table_answers_lem.0 all_filled.0 rows.0 shelves.0 vectors.0
      (images_of L.one opens.0 sets_up.0 vectors.0 (lit≤ tt) images_over.0) fresh_calls_are.0 elements.0
      (expected_of L.one opens.0 sets_up.0 vectors.0 (lit≤ tt) all_filled.0 elements.0 responses_over.0)
      losses_are.0 shared.0 joined.0,
  life L.three opens.1 sets_up.1 table_answers_lem.1 all_filled.1 rows.1 shelves.1 vectors.1
      (images_of L.three opens.1 sets_up.1 vectors.1 (lit≤ tt) images_over.1) fresh_calls_are.1 elements.1
      (expected_of L.three opens.1 sets_up.1 vectors.1 (lit≤ tt) all_filled.1 elements.1 responses_over.1)
      losses_are.1 shared.1 joined.1,
)
