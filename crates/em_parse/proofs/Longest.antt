-- The longest fragment of a kind.
use Rattle.std.proofs.lemmas.List.{append-nil}
use Rattle.std.proofs.Common.{◌≡◌, ℕ, zero, suc, ◌+◌, ◌-◌, ◌≤◌, ◌<◌, true, false, List, [], ◌∷◌, ◌++◌, length, length-append, take, drop, refl, sym, ◌∙◌, ap, subst, arith}
use Rattle.em_base.specs.declared.edition.Edition.{Edition}
use Rattle.em_tree.specs.declared.fragment.Fragment.{Fragment}
use Rattle.em_tree.specs.declared.fragment.FragmentNode.{FragmentNode}
use Rattle.em_tree.specs.declared.piece.FragmentKind.{FragmentKind}
use Rattle.em_tree.specs.Starts.{Pieces}
use Rattle.em_tree.specs.FragmentGrammar.{IsPrefix, kind_of_node}
use Rattle.em_grammar.specs.Reader.{Read, Found}
use Rattle.em_grammar.specs.FragmentLaws.{prefix_in, PrefixesExact}
use Rattle.em_grammar.specs.NestLaws.{node_nesting, FragmentsNest}
use Rattle.em_parse.specs.Calls.{most, Begins, IsLongest}
use Rattle.em_parse.proofs.Limit.{not_too_deep}

take_front : {A : Type 0} (xs ys : List A) → take (length xs) (xs ++ ys) ≡ xs
take_front [] ys = refl
take_front (x ∷ xs) ys = ap (λ k. x ∷ k) (take_front xs ys)

drop_front : {A : Type 0} (xs ys : List A) → drop (length xs) (xs ++ ys) ≡ ys
drop_front [] ys = refl
drop_front (x ∷ xs) ys = drop_front xs ys

-- a prefix within the limit
shallow : FragmentsNest → (edition : Edition) (d : ℕ) (ys rest : Pieces) (x : FragmentNode) → IsPrefix edition d ys rest x → node_nesting x ≤ most → IsPrefix edition most ys rest x
shallow nest edition d ys rest x h fits =
    record { reads = record { starts = h.reads.starts; yields = h.reads.yields; tree = (nest edition d most x h.reads.tree).1 fits }; stays = h.stays }

pub longest : PrefixesExact → FragmentsNest → (kind : FragmentKind) (edition : Edition) (i r : Pieces) (x : Fragment) → prefix_in kind edition most most i ≡ Found x.node r → node_nesting x.node ≤ most
    → x.kind ≡ kind → x.edition ≡ edition → x.taken ≡ length i - length r → x.pieces.list ≡ take x.taken i → IsLongest kind edition i x
longest exact nest kind edition i r x is fits k e t ps =
    let found = (exact kind edition).found most most i x.node r is in
    let ys : Pieces = found.1 in
    let size : x.taken ≡ length ys = omega (arith, t, ap (λ k. length k) found.2, length-append ys r) in
    let front : x.pieces.list ≡ ys = ps ∙ ap (λ n. take n i) size ∙ ap (λ k. take (length ys) k) found.2 ∙ take_front ys r in
    let back : drop x.taken i ≡ r = ap (λ n. drop n i) size ∙ ap (λ k. drop (length ys) k) found.2 ∙ drop_front ys r in
    record {
      kind_is = k;
      edition_is = e;
      taken_is = size ∙ ap (λ k. length k) (sym front);
      begins = (
        found.2 ∙ ap (λ k. k ++ r) (sym front) ∙ ap (λ k. x.pieces.list ++ k) (sym back),
        found.3,
        subst (λ k. IsPrefix edition most x.pieces.list k x.node) (sym back) (subst (λ k. IsPrefix edition most k r x.node) (sym front) (shallow nest edition found.0 ys r x.node found.4 fits)),
      );
      longest = λ d y zs rest h.
          let no_less = (exact kind edition).longest most most i x.node r is d y zs rest h.0 h.1 h.2 in
          omega (arith, no_less, size, ap (λ k. length k) h.0, length-append zs rest, ap (λ k. length k) found.2, length-append ys r);
      shallow = λ deep. not_too_deep node_nesting (prefix_in kind edition most most i) x.node r is fits deep;
    }
