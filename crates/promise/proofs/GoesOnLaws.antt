-- Demand 3 goes on, from every archive that follows a table. Assumes nothing.
use Prim.Native.Nat.{ℕ, ◌+◌, ◌*◌, ◌<◌}
use mathlib.Core.Path.{◌≡◌, refl, sym, subst, ◌∙◌}
use mathlib.Core.List.{List}
use native.Mathlib.Omega.{arith}
use lib.ListN.{length}
use borrow.Author.Tests.{lt-leb}
use Rattle.lists.specs.Lists.{pick, flat}
use Rattle.lists.proofs.PutLaws.{flat_same}
use Rattle.answer.specs.Answer.{Outcome, done, Ok, Err}
use Rattle.answer.specs.Refusals.{afterwards}
use Rattle.answer.proofs.RefusalLaws.{passed, after_done, differs_same}
use Rattle.sizes.specs.declared.Sizes.{Sizes}
use Rattle.archive.specs.Told.{sizes_answer, stored_row, rows_answer, rows_out}
use Rattle.promise.specs.Table.{Place, empty, filled, Table, all_empty, is_filled, element, written, table_run}
use Rattle.promise.specs.Image.{Setting, image}
use Rattle.promise.specs.Demand3.{Given, setting}
use Rattle.promise.specs.Fresh.{fresh_calls}
use Rattle.promise.specs.Shares.{Follows, table_gather, table_gathered, GoesOn, Demand3GoesOn}
use Rattle.promise.proofs.TableLaws.{Fine, AllFine, written_fine, run_fine}
use Rattle.promise.proofs.ImageLaws.{image_sizes, image_layout, image_good, image_filled, image_byte, record_row}
use Rattle.promise.proofs.RunLaws.{runs, gathers}
use Rattle.promise.proofs.DemandLaws.{fits, from_new, run_is, on_image}
use Rattle.promise.proofs.FreshLaws.{lent_length, fresh_admitted, encoded_is}

module _ (g : Given) where
  abbrev o : Setting
  o = setting g

  abbrev z : Sizes
  z = g.z

  -- ---- to follow a table is to be its image

  rows_fine : (t : Table) (archive : List ℕ) → Follows o t archive → AllFine z t
  rows_fine t archive w node place = go (t node place) refl
    where
      go : (x : Place) → t node place ≡ x → Fine z x
      go empty e = tt
      go (filled row) e = w.rows node place row e

  is_image : (t : Table) (archive : List ℕ) → Follows o t archive → archive ≡ image o t
  is_image t archive w = w.bytes g.lent (lent_length g) ∙ (encoded_is g t (rows_fine t archive w) g.lent (lent_length g)).1

  image_follows : (t : Table) → AllFine z t → Follows o t (image o t)
  image_follows t fine =
      record {
        rows = λ node place row e. subst (Fine z) e (fine node place);
        bytes = λ lent long. sym (encoded_is g t fine lent long).1;
      }

  -- ---- what is told of an image

  module _ (t : Table) (fine : AllFine z t) (node : ℕ) (there : node < z.nodes) where
    abbrev s : List ℕ
    s = image o t

    -- an empty place has no row, and a row of zeros where one is asked for
    shown : (x : Place) (i : ℕ) → pick (is_filled x) (element x i) 0 ≡ element x i
    shown empty i = refl
    shown (filled row) i = refl

    row_told : (place i : ℕ) → place < z.places → i < z.m → stored_row z s node place i ≡ element (t node place) i
    unfolding stored_row
    row_told place i h hi =
        rw (
          image_filled o (fits g) t node place there h,
          image_byte o (fits g) t node place (z.n + i) there h (omega arith),
          record_row o (fits g) t (t node place) (fine node place) i hi,
        )
        (shown (t node place) i)

    rows_done : (out : List ℕ) → length out ≡ z.places * z.m → rows_answer s node out ≡ done
    unfolding rows_answer
    rows_done out long =
        passed _ _ (image_good o (fits g) t)
        ∙ rw (image_sizes o (fits g) t) (passed _ _ (differs_same long) ∙ passed _ _ (lt-leb z.nodes node there))

    rows_told : (out : List ℕ) → length out ≡ z.places * z.m → rows_out s node out ≡ flat z.places z.m (λ place. element (t node place))
    unfolding rows_out
    rows_told out long =
        after_done _ _ (rows_done out long) ∙ rw (image_sizes o (fits g) t) (flat_same z.places z.m _ _ (λ place i h hi. row_told place i h hi))

  -- ---- from an image

  gathered_fine : (t u : Table) (node : ℕ) → AllFine z t → AllFine z u → AllFine z (table_gathered z t u node)
  unfolding afterwards
  gathered_fine t u node ft fu = go (table_gather z t node)
    where
      go : (a : Outcome) → AllFine z (afterwards a t (written node 0 z.places (u node) t))
      go (Ok _) = written_fine z node 0 z.places (u node) t (fu node) ft
      go (Err r) = ft

  image_goes_on : (t : Table) → AllFine z t → GoesOn g t (image o t)
  unfolding sizes_answer
  image_goes_on t fine =
      record {
        demand = on_image g (fresh_calls o t) t fine (from_new g g.lent g.open_done (fresh_calls o t) (fresh_admitted g t fine)).0;
        calls = λ calls a.
            let w = runs g (fits g) t calls a in
            (w.0, subst (Follows o (table_run z t calls)) (sym w.1) (image_follows (table_run z t calls) (run_fine g t fine calls a)));
        gathers = λ u share node follows.
            let w = gathers g (fits g) t u node in
            rw (is_image u share follows) (
              w.0,
              subst (Follows o (table_gathered z t u node)) (sym w.1)
                  (image_follows (table_gathered z t u node) (gathered_fine t u node fine (rows_fine u share follows))),
            );
        sizes = (passed _ _ (image_good o (fits g) t), image_layout o (fits g) t, image_sizes o (fits g) t);
        rows = λ node out there long. (rows_done t fine node there out long, rows_told t fine node there out long);
      }

pub demand3_goes_on : Demand3GoesOn
demand3_goes_on g = (
  λ calls a.
      subst (Follows (setting g) (table_run g.z all_empty calls)) (sym (run_is g calls a))
      (image_follows g (table_run g.z all_empty calls) (run_fine g all_empty (λ node place. tt) calls a)),
  λ t archive w. subst (GoesOn g t) (sym (is_image g t archive w)) (image_goes_on g t (rows_fine g t archive w)),
)
