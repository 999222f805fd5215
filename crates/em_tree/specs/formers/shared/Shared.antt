-- `Shared` as a type on the way from a type back to itself. It is one pointer and the value behind it.
use mathlib.Core.Path.{refl}
use mathlib.Core.Former.{Former, this, const, pair, via}
use base.Stored.{gnil}
use base.Fml.{ftrue}
use denote.RattleType.{RattleType}
use denote.Memory.{part_of}
use denote.RawPtr.{Ptr}
use denote.Sharing.{nothing}
use denote.HoleLaws.{Alike}
use denote.HolePlaces.{Recodes, struct_places, laid, one_value}
use denote.Hole.Fix.{over}
use denote.Param.Weighed.{Weighed}
use denote.Model.Placed.{view_places}
use Rattle.std.specs.declared.rc.Rc.{Rc}
use Rattle.std.specs.contracts.rc.Rc as rc
use Rattle.std.specs.declared.alloc.Global.{Global}
use Rattle.std.specs.contracts.alloc.Global as heap
use Rattle.std.specs.contracts.impls.GlobalAllocator.TheImpl.{ghosts}
use Rattle.em_tree.specs.declared.shared.Shared.TheInside.{Inside}
use Rattle.em_tree.specs.declared.shared.Shared.TheView.{view, invariant}
use Rattle.em_tree.specs.contracts.shared.Shared as C
use Rattle.em_tree.specs.contracts.shared.Shared.TheInside as I

-- it holds one value
abbrev pub the_former : Former {0} → Former {0}
the_former g = g

abbrev pub the_weighed : {g : Former {0}} → Weighed g → Weighed (the_former g)
the_weighed w = w

-- the pointer, and the value
abbrev parts : Former {0}
parts = via (pair (const Ptr) this) Inside (λ X a. (a.inner.ptr, a.inner.value))
    (λ X v. record { inner = record { ptr = v.0; value = v.1 } }) (λ X a. refl) (λ X v. refl)

abbrev pointing_to : {X Y : Type 0} → Rc X Global → Y → Rc Y Global
pointing_to owner y = record { ptr = owner.ptr; value = y }

abbrev row_of : RattleType → RattleType
row_of R = rc.the_row R heap.the_row ghosts

module _ (R S : RattleType) (h : R.Denot → S.Denot) where
  owner_places : Alike R S h → Alike (row_of R) (row_of S) (λ owner. pointing_to owner (h owner.value))
  unfolding part_of
  owner_places a = record {
    mir_same = λ i. (row_of (one_value R (a.mir_same i) (λ _. ftrue) (λ _ _. nothing) gnil)).mir;
    own_same = λ owner i. (row_of (one_value R (a.mir_same i) (a.own_same owner.value i) (a.shr_same owner.value i) gnil)).own_val (pointing_to owner tt);
    shr_same = λ owner i. (row_of (one_value R (a.mir_same i) (a.own_same owner.value i) (a.shr_same owner.value i) gnil)).shr_at (pointing_to owner tt);
  }

  pub the_places : Alike R S h → Alike (C.the_row R) (C.the_row S) ((the_former this).map R.Denot S.Denot h)
  the_places a = view_places parts this view (λ X Y k u. refl) (λ X u. refl) R.Denot S.Denot h (C.the_row R).coded (C.the_row S).coded
      (invariant R.Denot) (invariant S.Denot) (λ u p q. refl) (λ u p q. refl) (λ u e. tt) (λ u e. tt)
      (over (I.the_row R)) (over (I.the_row S))
      (struct_places (I.the_type R) (I.the_type S) ((λ owner. pointing_to owner (h owner.value)), tt) _ (λ d. refl) refl (laid _ _ _ (owner_places a), tt))

  pub the_codes_placed : Recodes R S h → Recodes (C.the_row R) (C.the_row S) ((the_former this).map R.Denot S.Denot h)
  the_codes_placed e d = e d
