-- The list of all sets of a size that hurt, as the loop makes it, set by set. Assumes nothing.
use Prim.Native.Nat.{ℕ, ◌+◌, ◌%◌, ◌<◌, ◌≤◌}
use mathlib.Core.Path.{◌≡◌, refl, sym, ap, subst, subst₂, ◌∙◌}
use mathlib.Core.Bool.{Bool, true, false}
use mathlib.Core.List.{List}
use native.Mathlib.Omega.{arith}
use borrow.Author.Count.{below_more}
use lib.ListN.{length, set}
use Rattle.lists.specs.Lists.{at, tab, over, how_many, filtered}
use Rattle.lists.proofs.OverLaws.{over_below, over_within}
use Rattle.lists.proofs.CountLaws.{how_many_mono, how_many_less, how_many_within}
use Rattle.lists.proofs.PadLaws.{padded_front, padded_behind}
use Rattle.lists.proofs.FilterLaws.{length_filtered, filtered_all, filtered_at, filtered_rising}
use Rattle.lists.proofs.ListingLaws.{Listing, listing_size, listing_none, listing_same, listing_skip, listing_take}
use Rattle.sizes.specs.declared.Sizes.{Sizes}
use Rattle.archive.specs.Losses.{nodes_in, SetOf, before, Hurts, Stands, Losses}
use Rattle.losses.specs.PrivateSets.{set_at, sized, Decides}
use Rattle.losses.proofs.SetLaws.{set_low, set_sized, set_found, set_order, room, power_low}

true_unless : (b : Bool) → (b ≡ false → ⊥) → b ≡ true
true_unless true h = refl
true_unless false h = absurd (h refl)

module _ (z : Sizes) (s : List ℕ) (k : ℕ) where
  abbrev Wanted : ℕ → Type 0
  Wanted set = SetOf z k set × Hurts z s set

  -- after the first x sets: a test that decides them, and what it lets pass
  pub record ListedSets (x count : ℕ) (sets : List ℕ) : Type 0 where
    pub test : ℕ → Bool
    pub decides : (y : ℕ) → y < x → Decides (test y) (Wanted (set_at y))
    pub listing : Listing 20 set_at test x count sets

  pub listed_none : {n : ℕ} {sets : List ℕ} → n ≡ 20 → sets ≡ tab n (λ i. 0) → ListedSets 0 0 sets
  listed_none e clear = record { test = λ y. false; decides = λ y h. absurd (omega arith); listing = listing_none 20 set_at _ e clear }

  -- ---- one set more

  module _ {x count : ℕ} {sets : List ℕ} (w : ListedSets x count sets) (b : Bool) (decided : Decides b (Wanted (set_at x))) where
    abbrev more_test : ℕ → Bool
    more_test = over x 1 (λ i. b) w.test

    old : (y : ℕ) → y < x → w.test y ≡ more_test y
    old y h = sym (over_below x 1 (λ i. b) w.test y h)

    new : more_test x ≡ b
    new = over_within x 1 (λ i. b) w.test x (omega arith) (omega arith)

    more_decided : (y : ℕ) → y < x + 1 → Decides (more_test y) (Wanted (set_at y))
    more_decided =
        below_more (λ y. Decides (more_test y) (Wanted (set_at y))) x
        (λ y h. subst (λ (t : Bool). Decides t (Wanted (set_at y))) (old y h) (w.decides y h))
        (subst (λ (t : Bool). Decides t (Wanted (set_at x))) (sym new) decided)

    so_far : Listing 20 set_at more_test x count sets
    so_far = listing_same 20 set_at _ _ old w.listing

  -- the set that was tested
  at_place : (x : ℕ) {v : ℕ} {t : Bool} → v ≡ set_at x → Decides t (Wanted v) → Decides t (Wanted (set_at x))
  at_place x {t = t} = subst (λ (v : ℕ). Decides t (Wanted v))

  pub listed_skip : {x count more v : ℕ} {sets written : List ℕ} {t : Bool} → v ≡ set_at x → Decides t (Wanted v) → t ≡ false → written ≡ sets
      → more ≡ count → ListedSets x count sets → ListedSets (x + 1) more written
  listed_skip {x} {t = t} is tested f v m w =
      let d = at_place x is tested in
      record {
        test = more_test w t d;
        decides = more_decided w t d;
        listing = listing_skip 20 set_at _ (new w t d ∙ f) v m (so_far w t d);
      }

  -- ---- there is room

  abbrev of_size : ℕ → Bool
  of_size x = sized z.nodes k (set_at x)

  within : {x count : ℕ} {sets : List ℕ} → ListedSets x count sets → count ≤ how_many x of_size
  within {x} w =
      omega (arith, w.listing.number, how_many_within x w.test of_size (λ y h e. set_sized z k (set_at y) ((w.decides y h).0 e).0))

  module _ (nodes_high : z.nodes ≤ 6) (k-high : k ≤ z.nodes) where
    few : {x count : ℕ} {sets : List ℕ} → x ≤ 64 → ListedSets x count sets → count ≤ 20
    few {x} h w = omega (arith, within w, how_many_mono x 64 of_size h, room z.nodes k nodes_high (omega arith))

    pub listed_size : {x count : ℕ} {sets : List ℕ} → x ≤ 64 → ListedSets x count sets → length sets ≡ 20
    listed_size h w = listing_size 20 set_at w.test (few h w) w.listing

    pub listed_room : {x count v : ℕ} {sets : List ℕ} {t : Bool} → x < 64 → v ≡ set_at x → Decides t (Wanted v) → t ≡ true → ListedSets x count sets → count < 20
    listed_room {x} h is tested f w =
        let here = (at_place x is tested).0 f in
        omega (
          arith,
          within w,
          how_many_less x 64 of_size h (set_sized z k (set_at x) here.0),
          room z.nodes k nodes_high (omega arith),
        )

    pub listed_take : {x count more v : ℕ} {sets written : List ℕ} {t : Bool} → x < 64 → v ≡ set_at x → Decides t (Wanted v) → t ≡ true
        → written ≡ set sets count (v % 256) → more ≡ count + 1 → ListedSets x count sets → ListedSets (x + 1) more written
    listed_take {x} {v = v} {t = t} h is tested f e m w =
        let d = at_place x is tested in
        let byte : v % 256 ≡ set_at x = omega (arith, is, set_low x) in
        record {
          test = more_test w t d;
          decides = more_decided w t d;
          listing = listing_take 20 set_at _ (new w t d ∙ f) (listed_room h is tested f w) byte e m (so_far w t d);
        }

    -- ---- all sets

    module _ {count : ℕ} {sets : List ℕ} (w : ListedSets 64 count sets) where
      abbrev entries : List ℕ
      entries = filtered 64 w.test set_at

      entry : (j : ℕ) → j < count → at sets j ≡ at entries j
      entry j h =
          ap (λ (l : List ℕ). at l j) w.listing.holds
          ∙ padded_front 20 entries j (omega (arith, length_filtered 64 w.test set_at, w.listing.number))

      -- what is so of every wanted set is so of an entry
      wanted : (j : ℕ) → j < count → Wanted (at sets j)
      wanted j h =
          subst Wanted (sym (entry j h))
          (filtered_all Wanted 64 w.test set_at (λ y l e. (w.decides y l).0 e) j (omega (arith, w.listing.number)))

      -- a wanted set is an entry
      stands_at : (y : ℕ) → y < 64 → Wanted (set_at y) → Stands count sets (set_at y)
      stands_at y h want =
          let passes : w.test y ≡ true = true_unless (w.test y) (λ e. (w.decides y h).1 e want) in
          let low : how_many y w.test < count = omega (arith, how_many_less y 64 w.test h passes, w.listing.number) in
          (how_many y w.test, low, entry _ low ∙ filtered_at 64 w.test set_at y h passes)

      stands : (set : ℕ) → SetOf z k set → Hurts z s set → Stands count sets set
      stands set is hurts =
          let found = set_found set (omega (arith, is.0, power_low z.nodes nodes_high)) in
          subst (Stands count sets) found (stands_at _ (omega arith) (subst Wanted (sym found) (is, hurts)))

      in_order : (i j : ℕ) → i < j → j < count → before (nodes_in (at sets i)) (nodes_in (at sets j)) ≡ true
      in_order i j h l =
          subst₂ (λ (a b : ℕ). before (nodes_in a) (nodes_in b) ≡ true) (sym (entry i (omega arith))) (sym (entry j l))
          (filtered_rising (λ a b. before (nodes_in a) (nodes_in b) ≡ true) 64 w.test set_at
          (λ x y less low p q. set_order x y less low (((w.decides x (omega arith)).0 p).0.1 ∙ sym ((w.decides y low).0 q).0.1)) i j h
          (omega (arith, w.listing.number)))

      losses : Losses z s k count sets
      losses =
          record {
            size = listed_size (omega arith) w;
            fits = few (omega arith) w;
            only = wanted;
            every = stands;
            order = in_order;
            rest = λ j h l.
                ap (λ (x : List ℕ). at x j) w.listing.holds
                ∙ padded_behind 20 entries j (omega (arith, length_filtered 64 w.test set_at, w.listing.number)) l;
          }

    pub listed_all : {x count : ℕ} {sets : List ℕ} → x ≡ 64 → ListedSets x count sets → Losses z s k count sets
    listed_all {count = count} {sets = sets} e w = losses (subst (λ (x : ℕ). ListedSets x count sets) e w)
