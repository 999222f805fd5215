-- What is read of literals, paths and types within limits is read within greater ones.
use Rattle.std.proofs.Common.{◌≡◌, ℕ, zero, suc, ◌≤◌, Bool, true, false, if◌then◌else◌, refl, arith}
use Rattle.em_tree.specs.declared.literal.Literal.{Literal}
use Rattle.em_tree.specs.declared.literal.Literal.TheVariants as literal
use Rattle.em_tree.specs.declared.types.Path.{Path}
use Rattle.em_tree.specs.declared.types.TypeTree.{TypeTree}
use Rattle.em_tree.specs.Starts.{Pieces}
use Rattle.em_grammar.specs.declared.sort.Sort.{Sort}
use Rattle.em_grammar.specs.declared.sort.Weak.TheVariants as weak
use Rattle.em_grammar.specs.declared.sort.Written.{Written}
use Rattle.em_grammar.specs.declared.sort.Written.TheVariants as word
use Rattle.em_grammar.specs.Sorts.{sort_of}
use Rattle.em_grammar.specs.Sets.{next, tokens, only, is_sign, dyn_sort, literal_sort, name_sort, int_sort}
use Rattle.em_grammar.specs.Lang.{one, two}
use Rattle.em_grammar.specs.Reader.{Read, Absent, Deep, token, mapped}
use Rattle.em_grammar.specs.LiteralReader.{is_literal_group, negative_of, literal_group_of, unsigned, unsigned_in, signed, signed_in, literal_in}
use Rattle.em_grammar.specs.PathReader.{segments, segments_first, is_path_group, path_group_of, plain_of, qualified_of, plain_path, plain_path_in, qualified, path_node}
use Rattle.em_grammar.specs.TypeReader.{is_type_group, node_first, type_first, dyn_follow, alone, is_lone, callable, angle_of, object_of, call_of, or_nothing, output_of, bound_of, path_type_of, ref_of, ref_ref_of, bracket_of, unit, dyn_of, type_group_of, tree_of, closing, output_part, call_parts, bound_node, angle_suffix, suffix, path_type, after_element, type_token, type_node, path_over, type_by, readers_in, type_in, path_in}
use Rattle.em_grammar.specs.Pairs.{Steady, Firm}
use Rattle.em_grammar.proofs.Steady.{firm_same, firm_deep, firm_chain, firm_seq, firm_map, firm_opt, firm_else, firm_when, firm_choice, firm_commas, firm_group}
use Rattle.em_grammar.proofs.TypeNodes.{Typed}
use Rattle.em_grammar.proofs.TypePairs.{types_read}

-- ---- literals

firm_unsigned : (s : Sort → Bool) {opened opened2 : Pieces → Read Literal} → Firm opened opened2 → Firm (unsigned s opened) (unsigned s opened2)
firm_unsigned s {opened} {opened2} o =
    firm_choice (tokens s) (firm_same (mapped literal.Token (token (λ t. s (sort_of t))))) (firm_map literal_group_of (firm_group is_literal_group o))

pub unsigned_firm : (s : Sort → Bool) (n m : ℕ) → n ≤ m → Firm (unsigned_in s n) (unsigned_in s m)
unfolding unsigned_in
unsigned_firm s zero zero h = firm_same (unsigned s (λ i. Deep))
unsigned_firm s zero (suc m) h = record { firm = (firm_unsigned s (firm_deep (unsigned_in s m))).firm }
unsigned_firm s (suc n) zero h = absurd (omega (arith, h))
unsigned_firm s (suc n) (suc m) h = record { firm = (firm_unsigned s (unsigned_firm s n m (omega (arith, h)))).firm }

firm_signed : {value value2 opened opened2 : Pieces → Read Literal} → Firm value value2 → Firm opened opened2 → Firm (signed value opened) (signed value2 opened2)
firm_signed v o = firm_choice (tokens (only word.Minus)) (firm_map negative_of (firm_seq (firm_same (token (is_sign word.Minus))) v)) (firm_unsigned literal_sort o)

signed_firm : (n m : ℕ) → n ≤ m → Firm (signed_in n) (signed_in m)
unfolding signed_in
signed_firm zero zero h = firm_same (signed (unsigned_in literal_sort zero) (λ i. Deep))
signed_firm zero (suc m) h = record { firm = (firm_signed (unsigned_firm literal_sort zero (suc m) h) (firm_deep (signed_in m))).firm }
signed_firm (suc n) zero h = absurd (omega (arith, h))
signed_firm (suc n) (suc m) h = record { firm = (firm_signed (unsigned_firm literal_sort (suc n) (suc m) h) (signed_firm n m (omega (arith, h)))).firm }

pub literal_firm : (s : Bool) (n m : ℕ) → n ≤ m → Firm (literal_in s n) (literal_in s m)
literal_firm true n m h = signed_firm n m h
literal_firm false n m h = unsigned_firm literal_sort n m h

-- ---- paths

firm_plain : {opened opened2 : Pieces → Read Path} → Firm opened opened2 → Firm (plain_path opened) (plain_path opened2)
firm_plain o = firm_choice segments_first (firm_same (mapped plain_of segments)) (firm_map path_group_of (firm_group is_path_group o))

pub plain_firm : (n m : ℕ) → n ≤ m → Firm (plain_path_in n) (plain_path_in m)
unfolding plain_path_in
plain_firm zero zero h = firm_same (plain_path (λ i. Deep))
plain_firm zero (suc m) h = record { firm = (firm_plain (firm_deep (plain_path_in m))).firm }
plain_firm (suc n) zero h = absurd (omega (arith, h))
plain_firm (suc n) (suc m) h = record { firm = (firm_plain (plain_firm n m (omega (arith, h)))).firm }

sign_firm : (x : Written) → Firm (token (is_sign x)) (token (is_sign x))
sign_firm x = firm_same (token (is_sign x))

firm_qualified : {ty ty2 : Pieces → Read TypeTree} {plain plain2 : Pieces → Read Path} → Firm ty ty2 → Firm plain plain2 → Firm (qualified ty plain) (qualified ty2 plain2)
firm_qualified t l =
    let name : Firm (token (λ t. name_sort (sort_of t))) (token (λ t. name_sort (sort_of t))) = firm_same (token (λ t. name_sort (sort_of t))) in
    firm_map qualified_of (firm_seq (sign_firm word.Lt) (firm_seq t (firm_seq (sign_firm word.As) (firm_seq l (firm_seq (sign_firm word.Gt) (firm_seq (sign_firm word.PathSep) name))))))

firm_path : {ty ty2 : Pieces → Read TypeTree} {plain plain2 opened opened2 : Pieces → Read Path} → Firm ty ty2 → Firm plain plain2 → Firm opened opened2
    → Firm (path_node ty plain opened) (path_node ty2 plain2 opened2)
unfolding path_node
firm_path t l o = record {
  firm = (firm_choice segments_first (firm_same (mapped plain_of segments))
      (firm_choice (tokens (only word.Lt)) (firm_qualified t l) (firm_map path_group_of (firm_group is_path_group o)))).firm;
}

-- ---- types

module _ {inner inner2 : Bool → Pieces → Read Typed} {path path2 : Pieces → Read Path} (i : (may : Bool) → Firm (inner may) (inner2 may)) (p : Firm path path2) where
  firm_angle : (may : Bool) → Firm (angle_suffix inner path may) (angle_suffix inner2 path2 may)
  firm_angle may = firm_map angle_of (firm_seq (sign_firm word.Lt) (firm_chain (i true) (λ t. firm_same (closing may t.1))))

  firm_output : (may : Bool) → Firm (output_part inner path may) (output_part inner2 path2 may)
  firm_output may = firm_map output_of (firm_opt (firm_seq (sign_firm word.RArrow) (i may)))

  firm_call : (may : Bool) → Firm (call_parts inner path may) (call_parts inner2 path2 may)
  firm_call may = firm_seq (sign_firm word.OpenParen) (firm_seq (firm_commas (firm_map tree_of (i false))) (firm_seq (sign_firm word.CloseParen) (firm_output may)))

  firm_bound : (may : Bool) → Firm (bound_node inner path may) (bound_node inner2 path2 may)
  unfolding bound_node
  firm_bound may = record { firm = (firm_map bound_of (firm_seq p (firm_opt (firm_call may)))).firm }

  firm_suffix : (may : Bool) (x : Path) → Firm (suffix inner path may x) (suffix inner2 path2 may x)
  firm_suffix may x =
      firm_else (firm_when (is_lone weak.Box (alone x)) (firm_angle may))
      (firm_else (firm_when (is_lone weak.Dyn (alone x)) (firm_map object_of (firm_choice dyn_follow (firm_bound may) (firm_same (λ i. Absent)))))
      (firm_map or_nothing (firm_opt (firm_when (callable x) (firm_map call_of (firm_call may))))))

  firm_path_type : (may : Bool) → Firm (path_type inner path may) (path_type inner2 path2 may)
  unfolding path_type
  firm_path_type may = record { firm = (firm_map path_type_of (firm_chain p (λ x. firm_suffix may x))).firm }

firm_after : (n m : ℕ) → n ≤ m → Firm (after_element n) (after_element m)
firm_after n m h =
    firm_choice (tokens (only word.CloseBracket)) (firm_map one (sign_firm word.CloseBracket))
    (firm_map two (firm_seq (sign_firm word.Semi) (firm_seq (unsigned_firm int_sort n m h) (sign_firm word.CloseBracket))))

module _ {inner inner2 deeper deeper2 : Bool → Pieces → Read Typed} {path path2 : Pieces → Read Path} (n m : ℕ) (h : n ≤ m) (i : (may : Bool) → Firm (inner may) (inner2 may))
    (k : (may : Bool) → Firm (deeper may) (deeper2 may)) (p : Firm path path2) where
  firm_token : (may : Bool) → Firm (type_token n inner deeper path may) (type_token m inner2 deeper2 path2 may)
  unfolding type_token
  firm_token may = record {
    firm = (firm_choice (tokens (only word.And)) (firm_map ref_of (firm_seq (sign_firm word.And) (firm_seq (firm_opt (sign_firm word.Mut)) (i may))))
        (firm_choice (tokens (only word.AndAnd)) (firm_map ref_ref_of (firm_seq (sign_firm word.AndAnd) (firm_seq (firm_opt (sign_firm word.Mut)) (k may))))
        (firm_choice (tokens (only word.OpenBracket)) (firm_map bracket_of (firm_seq (sign_firm word.OpenBracket) (firm_seq (firm_map tree_of (i false)) (firm_after n m h))))
        (firm_choice (tokens (only word.OpenParen)) (firm_same unit)
        (firm_choice (tokens dyn_sort) (firm_map dyn_of (firm_seq (firm_same (token (λ t. dyn_sort (sort_of t)))) (firm_bound i p may))) (firm_path_type i p may)))))).firm;
  }

  firm_node : {opened opened2 : Pieces → Read TypeTree} → Firm opened opened2 → (may : Bool) → Firm (type_node n inner deeper path opened may) (type_node m inner2 deeper2 path2 opened2 may)
  unfolding type_node
  firm_node o may = record { firm = (firm_choice node_first (firm_token may) (firm_map type_group_of (firm_group is_type_group o))).firm }

firm_over : (n m : ℕ) → n ≤ m → {inner inner2 : Bool → Pieces → Read Typed} {opened opened2 : Pieces → Read Path} → ((may : Bool) → Firm (inner may) (inner2 may)) → Firm opened opened2
    → Firm (path_over n inner opened) (path_over m inner2 opened2)
firm_over n m h i o = firm_path (firm_map tree_of (i false)) (plain_firm n m h) o

-- ---- all depths

module _ (n m : ℕ) (h : n ≤ m) (types types2 : ℕ → Pieces → Read TypeTree) (paths paths2 : ℕ → Pieces → Read Path) (t : (d e : ℕ) → d ≤ e → Firm (types d) (types2 e))
    (p : (d e : ℕ) → d ≤ e → Firm (paths d) (paths2 e))
    (absent : (e : ℕ) (may : Bool) (i : Pieces) → next type_first i ≡ false → type_by m types2 paths2 e may i ≡ Absent) where
  firm_by : (d e : ℕ) → d ≤ e → (may : Bool) → Firm (type_by n types paths d may) (type_by m types2 paths2 e may)
  unfolding type_by
  firm_by zero e k may = record { firm = λ i. go i (next type_first i) refl }
    where
      go : (i : Pieces) (b : Bool) → next type_first i ≡ b → Steady (if b then Deep else Absent) (type_by m types2 paths2 e may i)
      go i true is = tt
      go i false is = absent e may i is
  firm_by (suc zero) zero k may = absurd (omega (arith, k))
  firm_by (suc zero) (suc zero) k may =
      let below : (may : Bool) → Firm (type_by n types paths 0 may) (type_by m types2 paths2 0 may) = λ may. firm_by zero zero (omega arith) may in
      record { firm = (firm_node n m h below below (firm_over n m h below (p 0 0 (omega arith))) (t 1 1 (omega arith)) may).firm }
  firm_by (suc zero) (suc (suc e)) k may =
      let here : (may : Bool) → Firm (type_by n types paths 0 may) (type_by m types2 paths2 (suc e) may) = λ may. firm_by zero (suc e) (omega arith) may in
      let below : (may : Bool) → Firm (type_by n types paths 0 may) (type_by m types2 paths2 e may) = λ may. firm_by zero e (omega arith) may in
      record { firm = (firm_node n m h here below (firm_over n m h here (p 0 (suc e) (omega arith))) (t 1 (suc (suc e)) (omega arith)) may).firm }
  firm_by (suc (suc d)) zero k may = absurd (omega (arith, k))
  firm_by (suc (suc d)) (suc zero) k may = absurd (omega (arith, k))
  firm_by (suc (suc d)) (suc (suc e)) k may =
      let here : (may : Bool) → Firm (type_by n types paths (suc d) may) (type_by m types2 paths2 (suc e) may) = λ may. firm_by (suc d) (suc e) (omega (arith, k)) may in
      let below : (may : Bool) → Firm (type_by n types paths d may) (type_by m types2 paths2 e may) = λ may. firm_by d e (omega (arith, k)) may in
      record { firm = (firm_node n m h here below (firm_over n m h here (p (suc d) (suc e) (omega (arith, k)))) (t (suc (suc d)) (suc (suc e)) k) may).firm }

-- ---- groups in one another

abbrev FirmTypes : ℕ → ℕ → Type 0
FirmTypes n m = (d e : ℕ) → d ≤ e → (may : Bool) → Firm (type_in n d may) (type_in m e may)

abbrev FirmPaths : ℕ → ℕ → Type 0
FirmPaths n m = (d e : ℕ) → d ≤ e → Firm (path_in n d) (path_in m e)

both_firm : (n m : ℕ) → n ≤ m → FirmTypes n m × FirmPaths n m
unfolding readers_in
both_firm zero zero h =
    let types : FirmTypes 0 0
    = firm_by 0 0 h (λ depth i. Deep) (λ depth i. Deep) (λ depth i. Deep) (λ depth i. Deep) (λ d e k. firm_same (λ i. Deep)) (λ d e k. firm_same (λ i. Deep)) (λ e may. (types_read 0 e may).absent) in
    (types, λ d e k. firm_over 0 0 h (types d e k) (firm_same (λ i. Deep)))
both_firm zero (suc m) h =
    let types : FirmTypes 0 (suc m)
    = firm_by 0 (suc m) h (λ depth i. Deep) (λ depth. mapped tree_of (type_in m depth false)) (λ depth i. Deep) (path_in m) (λ d e k. firm_deep (mapped tree_of (type_in m e false)))
    (λ d e k. firm_deep (path_in m e)) (λ e may. (types_read (suc m) e may).absent) in
    (types, λ d e k. firm_over 0 (suc m) h (types d e k) (firm_deep (path_in m e)))
both_firm (suc n) zero h = absurd (omega (arith, h))
both_firm (suc n) (suc m) h =
    let below = both_firm n m (omega (arith, h)) in
    let types : FirmTypes (suc n) (suc m)
    = firm_by (suc n) (suc m) h (λ depth. mapped tree_of (type_in n depth false)) (λ depth. mapped tree_of (type_in m depth false)) (path_in n) (path_in m)
    (λ d e k. firm_map tree_of (below.0 d e k false)) below.1 (λ e may. (types_read (suc m) e may).absent) in
    (types, λ d e k. firm_over (suc n) (suc m) h (types d e k) (below.1 d e k))

pub types_firm : (n m : ℕ) → n ≤ m → FirmTypes n m
types_firm n m h = (both_firm n m h).0

pub paths_firm : (n m : ℕ) → n ≤ m → FirmPaths n m
paths_firm n m h = (both_firm n m h).1
