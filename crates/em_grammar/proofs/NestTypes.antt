-- The depth of a path, a type or a pattern is how deep it nests.
use Rattle.std.proofs.Common.{◌≡◌, ℕ, zero, suc, ◌≤◌, Bool, true, false, List, [], ◌∷◌, Option, Some, None, refl, sym, ◌∙◌, ap, subst, map, arith, max}
use Rattle.std.specs.Prelude.{codes}
use Rattle.em_base.specs.declared.token.Token.{Token}
use Rattle.em_tree.specs.declared.parts.Listed.{Listed}
use Rattle.em_tree.specs.declared.types.Path.{Path, out-Path, fold-Path, fold_out-Path, map-Path}
use Rattle.em_tree.specs.declared.types.Qualified.{Qualified, out-Qualified, fold-Qualified, fold_out-Qualified, map-Qualified}
use Rattle.em_tree.specs.declared.types.Output.{Output, out-Output, fold-Output, fold_out-Output, map-Output}
use Rattle.em_tree.specs.declared.types.Bound.{Bound, out-Bound, fold-Bound, fold_out-Bound, map-Bound}
use Rattle.em_tree.specs.declared.types.TypeTree.{TypeTree, out-TypeTree, fold-TypeTree, fold_out-TypeTree, map-TypeTree}
use Rattle.em_tree.specs.declared.types.Bound.TheOpen.{Bound-F, Output-F, Path-F, TypeTree-F, Qualified-F}
use Rattle.em_tree.specs.declared.pat.FieldPat.{FieldPat}
use Rattle.em_tree.specs.declared.pat.FieldPat.TheVariants as field
use Rattle.em_tree.specs.declared.pat.Pat.{Pat, out-Pat, fold-Pat, fold_out-Pat, map-Pat}
use Rattle.em_tree.specs.declared.pat.Pat.TheOpen.{Pat-F}
use Rattle.em_tree.specs.declared.pat.Pat.TheShapes.{former-Pat-Struct-2-at-8}
use Rattle.em_tree.specs.declared.pat.Alternative.{Alternative}
use Rattle.em_tree.specs.declared.pat.TopPat.{TopPat, out-TopPat, fold-TopPat, fold_out-TopPat, map-TopPat}
use Rattle.em_tree.specs.declared.pat.TopPat.TheOpen.{TopPat-F}
use Rattle.em_tree.specs.Tokens.{Is, Maybe, Each, Commas}
use Rattle.em_tree.specs.PathGrammar as g
use Rattle.em_tree.specs.PathGrammar.{IsPlainPath, IsPath, IsOutput, IsCallBound, IsBound, Closes, TypeNode, IsType, PathWithin, TypeWithin}
use Rattle.em_tree.specs.PatGrammar as gp
use Rattle.em_tree.specs.PatGrammar.{IsField, IsRest, PatNode, IsPat, Alternatives, IsTopPat}
use Rattle.em_tree.specs.Nesting.{greatest, bound_depth, output_depth, path_depth, type_depth, qualified_depth, path_nesting, output_nesting, bound_nesting, qualified_nesting, type_nesting, field_depth, pat_depth, pat_nesting, top_depth, top_nesting}
use Rattle.em_grammar.proofs.TypeNodes.{DeeperIs, node_type, type_node_of, no_type_at}
use Rattle.em_grammar.proofs.PatNodes.{NextIs, node_pat, pat_node_of, no_pat_at}

-- ---- lists

pub greatest_map : {A B : Type 0} (f : B → ℕ) (k : A → B) (xs : List A) → greatest f (map k xs) ≡ greatest (λ x. f (k x)) xs
greatest_map f k [] = refl
greatest_map f k (x ∷ xs) = ap (λ r. max (f (k x)) r) (greatest_map f k xs)

pub greatest_alike : {A : Type 0} (f k : A → ℕ) → ((x : A) → f x ≡ k x) → (xs : List A) → greatest f xs ≡ greatest k xs
greatest_alike f k same [] = refl
greatest_alike f k same (x ∷ xs) = ap (λ r. max r (greatest f xs)) (same x) ∙ ap (λ r. max (k x) r) (greatest_alike f k same xs)

pub commas_low : {A : Type 0} (P : A → Type 0) (f : A → ℕ) (d : ℕ) → ((x : A) → P x → f x ≤ d) → (xs : List (Listed A)) → Commas P xs → greatest (λ l. f l.item) xs ≤ d
commas_low P f d h [] m = omega arith
commas_low P f d h (a ∷ []) m = omega (arith, h a.item m.0)
commas_low P f d h (a ∷ b ∷ rest) m = omega (arith, h a.item m.0, commas_low P f d h (b ∷ rest) m.2)

pub commas_within : {A : Type 0} (P Q : A → Type 0) (f : A → ℕ) (d : ℕ) → ((x : A) → P x → f x ≤ d → Q x) → (xs : List (Listed A)) → Commas P xs → greatest (λ l. f l.item) xs ≤ d → Commas Q xs
commas_within P Q f d h [] m low = tt
commas_within P Q f d h (a ∷ []) m low = (h a.item m.0 (omega (arith, low)), m.1)
commas_within P Q f d h (a ∷ b ∷ rest) m low = (h a.item m.0 (omega (arith, low)), m.1, commas_within P Q f d h (b ∷ rest) m.2 (omega (arith, low)))

pub each_low : {A : Type 0} (P : A → Type 0) (f : A → ℕ) (d : ℕ) → ((x : A) → P x → f x ≤ d) → (xs : List A) → Each P xs → greatest f xs ≤ d
each_low P f d h [] m = omega arith
each_low P f d h (x ∷ xs) m = omega (arith, h x m.0, each_low P f d h xs m.1)

pub each_within : {A : Type 0} (P Q : A → Type 0) (f : A → ℕ) (d : ℕ) → ((x : A) → P x → f x ≤ d → Q x) → (xs : List A) → Each P xs → greatest f xs ≤ d → Each Q xs
each_within P Q f d h [] m low = tt
each_within P Q f d h (x ∷ xs) m low = (h x m.0 (omega (arith, low)), each_within P Q f d h xs m.1 (omega (arith, low)))

-- ---- one layer

at_bound : (x : Bound) (l : Bound-F Bound Output Path TypeTree Qualified) → out-Bound x ≡ l
    → bound_nesting x ≡ bound_depth (map-Bound Bound Output Path TypeTree Qualified ℕ ℕ ℕ ℕ ℕ bound_nesting output_nesting path_nesting type_nesting qualified_nesting l)
unfolding bound_nesting output_nesting path_nesting type_nesting qualified_nesting
at_bound x l is =
    fold_out-Bound ℕ ℕ ℕ ℕ ℕ bound_depth output_depth path_depth type_depth qualified_depth x
    ∙ ap (λ k. bound_depth (map-Bound Bound Output Path TypeTree Qualified ℕ ℕ ℕ ℕ ℕ bound_nesting output_nesting path_nesting type_nesting qualified_nesting k)) is

at_output : (x : Output) (l : Output-F Bound Output Path TypeTree Qualified) → out-Output x ≡ l
    → output_nesting x ≡ output_depth (map-Output Bound Output Path TypeTree Qualified ℕ ℕ ℕ ℕ ℕ bound_nesting output_nesting path_nesting type_nesting qualified_nesting l)
unfolding bound_nesting output_nesting path_nesting type_nesting qualified_nesting
at_output x l is =
    fold_out-Output ℕ ℕ ℕ ℕ ℕ bound_depth output_depth path_depth type_depth qualified_depth x
    ∙ ap (λ k. output_depth (map-Output Bound Output Path TypeTree Qualified ℕ ℕ ℕ ℕ ℕ bound_nesting output_nesting path_nesting type_nesting qualified_nesting k)) is

at_path : (x : Path) (l : Path-F Bound Output Path TypeTree Qualified) → out-Path x ≡ l
    → path_nesting x ≡ path_depth (map-Path Bound Output Path TypeTree Qualified ℕ ℕ ℕ ℕ ℕ bound_nesting output_nesting path_nesting type_nesting qualified_nesting l)
unfolding bound_nesting output_nesting path_nesting type_nesting qualified_nesting
at_path x l is =
    fold_out-Path ℕ ℕ ℕ ℕ ℕ bound_depth output_depth path_depth type_depth qualified_depth x
    ∙ ap (λ k. path_depth (map-Path Bound Output Path TypeTree Qualified ℕ ℕ ℕ ℕ ℕ bound_nesting output_nesting path_nesting type_nesting qualified_nesting k)) is

at_type : (x : TypeTree) (l : TypeTree-F Bound Output Path TypeTree Qualified) → out-TypeTree x ≡ l
    → type_nesting x ≡ type_depth (map-TypeTree Bound Output Path TypeTree Qualified ℕ ℕ ℕ ℕ ℕ bound_nesting output_nesting path_nesting type_nesting qualified_nesting l)
unfolding bound_nesting output_nesting path_nesting type_nesting qualified_nesting
at_type x l is =
    fold_out-TypeTree ℕ ℕ ℕ ℕ ℕ bound_depth output_depth path_depth type_depth qualified_depth x
    ∙ ap (λ k. type_depth (map-TypeTree Bound Output Path TypeTree Qualified ℕ ℕ ℕ ℕ ℕ bound_nesting output_nesting path_nesting type_nesting qualified_nesting k)) is

at_qualified : (x : Qualified) (l : Qualified-F Bound Output Path TypeTree Qualified) → out-Qualified x ≡ l
    → qualified_nesting x ≡ qualified_depth (map-Qualified Bound Output Path TypeTree Qualified ℕ ℕ ℕ ℕ ℕ bound_nesting output_nesting path_nesting type_nesting qualified_nesting l)
unfolding bound_nesting output_nesting path_nesting type_nesting qualified_nesting
at_qualified x l is =
    fold_out-Qualified ℕ ℕ ℕ ℕ ℕ bound_depth output_depth path_depth type_depth qualified_depth x
    ∙ ap (λ k. qualified_depth (map-Qualified Bound Output Path TypeTree Qualified ℕ ℕ ℕ ℕ ℕ bound_nesting output_nesting path_nesting type_nesting qualified_nesting k)) is

at_pat : (x : Pat) (l : Pat-F Pat) → out-Pat x ≡ l → pat_nesting x ≡ pat_depth (map-Pat Pat ℕ pat_nesting l)
unfolding pat_nesting
at_pat x l is = fold_out-Pat ℕ pat_depth x ∙ ap (λ k. pat_depth (map-Pat Pat ℕ pat_nesting k)) is

at_top : (x : TopPat) (l : TopPat-F TopPat) → out-TopPat x ≡ l → top_nesting x ≡ top_depth (map-TopPat TopPat ℕ top_nesting l)
unfolding top_nesting
at_top x l is = fold_out-TopPat ℕ top_depth x ∙ ap (λ k. top_depth (map-TopPat TopPat ℕ top_nesting k)) is

-- ---- paths and types nest no deeper than their depth

plain_none : (x : Path) → IsPlainPath x → path_nesting x ≡ 0
plain_none _ (g.IsPlainPath.plain {x} {s} is m) = at_path x (Path-F.Plain s) is
plain_none _ (g.IsPlainPath.group {x} {y} {g = gr} is k ps m) = at_path x (Path-F.Path::Group gr y) is ∙ plain_none y m

qualified_at : (x : Path) (q : Qualified) → out-Path x ≡ Path-F.Qualified q → path_nesting x ≡ max (type_nesting (out-Qualified q).self_type) (path_nesting (out-Qualified q).of_trait)
qualified_at x q is = at_path x (Path-F.Qualified q) is ∙ at_qualified q (out-Qualified q) refl

call_at : (b : Bound) (x : Path) (o : Token) (i : List (Listed TypeTree)) (c : Token) (out : Output) → out-Bound b ≡ Bound-F.Call x o i c out
    → bound_nesting b ≡ max (path_nesting x) (max (greatest (λ l. type_nesting l.item) i) (output_nesting out))
call_at b x o i c out is = at_bound b (Bound-F.Call x o i c out) is ∙ ap (λ r. max (path_nesting x) (max r (output_nesting out))) (greatest_map (λ l. l.item) _ i)

module _ (I : TypeTree → Type 0) (d : ℕ) (h : (x : TypeTree) → I x → type_nesting x ≤ d) where
  pub path_low : (x : Path) → IsPath I x → path_nesting x ≤ d
  path_low _ (g.IsPath.plain {x} {s} is m) = let e : path_nesting x ≡ 0 = at_path x (Path-F.Plain s) is in omega (arith, e)
  path_low _ (g.IsPath.qualified {x} {q} is a b c k e f n) = omega (arith, qualified_at x q is, h (out-Qualified q).self_type b, plain_none (out-Qualified q).of_trait k)
  path_low _ (g.IsPath.group {x} {y} {g = gr} is k ps m) = let e : path_nesting x ≡ path_nesting y = at_path x (Path-F.Path::Group gr y) is in omega (arith, e, path_low y m)

module _ (I J : TypeTree → Type 0) (d : ℕ) (h : (x : TypeTree) → I x → type_nesting x ≤ d → J x) where
  pub path_within : (x : Path) → IsPath I x → path_nesting x ≤ d → IsPath J x
  path_within _ (g.IsPath.plain is m) low = g.IsPath.plain is m
  path_within _ (g.IsPath.qualified {x} {q} is a b c k e f n) low = g.IsPath.qualified {q = q} is a (h (out-Qualified q).self_type b (omega (arith, low, qualified_at x q is))) c k e f n
  path_within _ (g.IsPath.group {x} {y} {g = gr} is k ps m) low =
      let e : path_nesting x ≡ path_nesting y = at_path x (Path-F.Path::Group gr y) is in g.IsPath.group is k ps (path_within y m (omega (arith, low, e)))

module _ (I D : Bool → TypeTree → Type 0) (d : ℕ) (h : (o : Bool) (x : TypeTree) → I o x → type_nesting x ≤ d) (k : (o : Bool) (x : TypeTree) → D o x → suc (type_nesting x) ≤ d) where
  closes_low : (owes : Bool) (close : Option Token) (x : TypeTree) → Closes I D owes close x → type_nesting x ≤ d
  closes_low owes close x (g.Closes.alone is a m e) = h false x m
  closes_low owes close x (g.Closes.with_inner is a m e) = h true x m
  closes_low owes close x (g.Closes.by_outer is m e) = h false x m

  pub output_low : (owes : Bool) (o : Output) → IsOutput I D owes o → output_nesting o ≤ d
  output_low owes o (g.IsOutput.nothing is e) = let n : output_nesting o ≡ 0 = at_output o Output-F.Output::Unit is in omega (arith, n)
  output_low owes o (g.IsOutput.type {arrow} {x} is a m) = let n : output_nesting o ≡ type_nesting x = at_output o (Output-F.Type arrow x) is in omega (arith, n, h owes x m)

  call_low : (b : Bound) (owes : Bool) (x : Path) (o : Token) (i : List (Listed TypeTree)) (c : Token) (out : Output) → out-Bound b ≡ Bound-F.Call x o i c out → IsCallBound I D owes x o i c out → bound_nesting b ≤ d
  call_low b owes x o i c out is m =
      omega (arith, call_at b x o i c out is, path_low (I false) d (h false) x m.is_path, commas_low (I false) type_nesting d (h false) i m.inside, output_low owes out m.result)

  bound_low : (owes : Bool) (b : Bound) → IsBound I D owes b → bound_nesting b ≤ d
  bound_low owes b (g.IsBound.path {x} is m e) = let n : bound_nesting b ≡ path_nesting x = at_bound b (Bound-F.Bound::Path x) is in omega (arith, n, path_low (I false) d (h false) x m)
  bound_low owes b (g.IsBound.call {x} {open' = o} {close = c} {inputs} {output = out} is m) = call_low b owes x o inputs c out is m

  node_low : (owes : Bool) (x : TypeTree) → TypeNode I D owes x → type_nesting x ≤ suc d
  node_low _ _ (g.TypeNode.path {x} {y} is m) =
      let n : type_nesting x ≡ suc (path_nesting y) = at_type x (TypeTree-F.TypeTree::Path y) is in omega (arith, n, path_low (I false) d (h false) y m)
  node_low _ _ (g.TypeNode.boxed {owes} {x} {y} {word} {open' = o} {close} is a n b m) =
      let e : type_nesting x ≡ suc (type_nesting y) = at_type x (TypeTree-F.Boxed word o y close) is in omega (arith, e, closes_low owes close y m)
  node_low _ _ (g.TypeNode.ref {owes} {x} {y} {amp} {word_mut} is a b m) = let e : type_nesting x ≡ suc (type_nesting y) = at_type x (TypeTree-F.Ref amp word_mut y) is in omega (arith, e, h owes y m)
  node_low _ _ (g.TypeNode.ref_ref {owes} {x} {y} {amps} {word_mut} is a b m) =
      let e : type_nesting x ≡ suc (suc (type_nesting y)) = at_type x (TypeTree-F.RefRef amps word_mut y) is in omega (arith, e, k owes y m)
  node_low _ _ (g.TypeNode.array {x} {y} {open' = o} {semi} {close} {length} is a m b c q) =
      let e : type_nesting x ≡ suc (type_nesting y) = at_type x (TypeTree-F.Array o y semi length close) is in omega (arith, e, h false y m)
  node_low _ _ (g.TypeNode.slice {x} {y} {open' = o} {close} is a m b) = let e : type_nesting x ≡ suc (type_nesting y) = at_type x (TypeTree-F.Slice o y close) is in omega (arith, e, h false y m)
  node_low _ _ (g.TypeNode.unit {x} {open' = o} {close} is a b) = let e : type_nesting x ≡ 1 = at_type x (TypeTree-F.TypeTree::Unit o close) is in omega (arith, e)
  node_low _ _ (g.TypeNode.dyn {owes} {x} {word} {b} is a m) = let e : type_nesting x ≡ suc (bound_nesting b) = at_type x (TypeTree-F.Dyn word b) is in omega (arith, e, bound_low owes b m)
  node_low _ _ (g.TypeNode.bare {owes} {x} {b} {y} {open' = o} {close = c} {inputs} {output = out} is at m old other) =
      let e : type_nesting x ≡ suc (bound_nesting b) = at_type x (TypeTree-F.Bare b) is in omega (arith, e, call_low b owes y o inputs c out at m)
  node_low _ _ (g.TypeNode.group {x} {y} {g = gr} is a b m) = let e : type_nesting x ≡ type_nesting y = at_type x (TypeTree-F.TypeTree::Group gr y) is in omega (arith, e, node_low false y m)

module _ (I J D E : Bool → TypeTree → Type 0) (d : ℕ) (h : (o : Bool) (x : TypeTree) → I o x → type_nesting x ≤ d → J o x)
    (k : (o : Bool) (x : TypeTree) → D o x → suc (type_nesting x) ≤ d → E o x) where
  closes_within : (owes : Bool) (close : Option Token) (x : TypeTree) → Closes I D owes close x → type_nesting x ≤ d → Closes J E owes close x
  closes_within owes close x (g.Closes.alone is a m e) low = g.Closes.alone is a (h false x m low) e
  closes_within owes close x (g.Closes.with_inner is a m e) low = g.Closes.with_inner is a (h true x m low) e
  closes_within owes close x (g.Closes.by_outer is m e) low = g.Closes.by_outer is (h false x m low) e

  pub output_within : (owes : Bool) (o : Output) → IsOutput I D owes o → output_nesting o ≤ d → IsOutput J E owes o
  output_within owes o (g.IsOutput.nothing is e) low = g.IsOutput.nothing is e
  output_within owes o (g.IsOutput.type {arrow} {x} is a m) low =
      let n : output_nesting o ≡ type_nesting x = at_output o (Output-F.Type arrow x) is in g.IsOutput.type is a (h owes x m (omega (arith, low, n)))

  call_within : (b : Bound) (owes : Bool) (x : Path) (o : Token) (i : List (Listed TypeTree)) (c : Token) (out : Output) → out-Bound b ≡ Bound-F.Call x o i c out → IsCallBound I D owes x o i c out
      → bound_nesting b ≤ d → IsCallBound J E owes x o i c out
  call_within b owes x o i c out is m low =
      let n : bound_nesting b ≡ max (path_nesting x) (max (greatest (λ l. type_nesting l.item) i) (output_nesting out)) = call_at b x o i c out is in
      record {
        is_path = path_within (I false) (J false) d (h false) x m.is_path (omega (arith, low, n));
        opens = m.opens;
        inside = commas_within (I false) (J false) type_nesting d (h false) i m.inside (omega (arith, low, n));
        closes = m.closes;
        result = output_within owes out m.result (omega (arith, low, n));
      }

  bound_within : (owes : Bool) (b : Bound) → IsBound I D owes b → bound_nesting b ≤ d → IsBound J E owes b
  bound_within owes b (g.IsBound.path {x} is m e) low =
      let n : bound_nesting b ≡ path_nesting x = at_bound b (Bound-F.Bound::Path x) is in g.IsBound.path is (path_within (I false) (J false) d (h false) x m (omega (arith, low, n))) e
  bound_within owes b (g.IsBound.call {x} {open' = o} {close = c} {inputs} {output = out} is m) low = g.IsBound.call is (call_within b owes x o inputs c out is m low)

  node_within : (owes : Bool) (x : TypeTree) → TypeNode I D owes x → type_nesting x ≤ suc d → TypeNode J E owes x
  node_within _ _ (g.TypeNode.path {x} {y} is m) low =
      let n : type_nesting x ≡ suc (path_nesting y) = at_type x (TypeTree-F.TypeTree::Path y) is in g.TypeNode.path is (path_within (I false) (J false) d (h false) y m (omega (arith, low, n)))
  node_within _ _ (g.TypeNode.boxed {owes} {x} {y} {word} {open' = o} {close} is a n b m) low =
      let e : type_nesting x ≡ suc (type_nesting y) = at_type x (TypeTree-F.Boxed word o y close) is in g.TypeNode.boxed is a n b (closes_within owes close y m (omega (arith, low, e)))
  node_within _ _ (g.TypeNode.ref {owes} {x} {y} {amp} {word_mut} is a b m) low =
      let e : type_nesting x ≡ suc (type_nesting y) = at_type x (TypeTree-F.Ref amp word_mut y) is in g.TypeNode.ref is a b (h owes y m (omega (arith, low, e)))
  node_within _ _ (g.TypeNode.ref_ref {owes} {x} {y} {amps} {word_mut} is a b m) low =
      let e : type_nesting x ≡ suc (suc (type_nesting y)) = at_type x (TypeTree-F.RefRef amps word_mut y) is in g.TypeNode.ref_ref is a b (k owes y m (omega (arith, low, e)))
  node_within _ _ (g.TypeNode.array {x} {y} {open' = o} {semi} {close} {length} is a m b c q) low =
      let e : type_nesting x ≡ suc (type_nesting y) = at_type x (TypeTree-F.Array o y semi length close) is in g.TypeNode.array is a (h false y m (omega (arith, low, e))) b c q
  node_within _ _ (g.TypeNode.slice {x} {y} {open' = o} {close} is a m b) low =
      let e : type_nesting x ≡ suc (type_nesting y) = at_type x (TypeTree-F.Slice o y close) is in g.TypeNode.slice is a (h false y m (omega (arith, low, e))) b
  node_within _ _ (g.TypeNode.unit is a b) low = g.TypeNode.unit is a b
  node_within _ _ (g.TypeNode.dyn {owes} {x} {word} {b} is a m) low =
      let e : type_nesting x ≡ suc (bound_nesting b) = at_type x (TypeTree-F.Dyn word b) is in g.TypeNode.dyn is a (bound_within owes b m (omega (arith, low, e)))
  node_within _ _ (g.TypeNode.bare {owes} {x} {b} {y} {open' = o} {close = c} {inputs} {output = out} is at m old other) low =
      let e : type_nesting x ≡ suc (bound_nesting b) = at_type x (TypeTree-F.Bare b) is in g.TypeNode.bare is at (call_within b owes y o inputs c out at m (omega (arith, low, e))) old other
  node_within _ _ (g.TypeNode.group {x} {y} {g = gr} is a b m) low =
      let e : type_nesting x ≡ type_nesting y = at_type x (TypeTree-F.TypeTree::Group gr y) is in g.TypeNode.group is a b (node_within false y m (omega (arith, low, e)))

-- ---- types

pub types_low : (d : ℕ) → ((o : Bool) (x : TypeTree) → IsType d o x → type_nesting x ≤ d) × ((o : Bool) (x : TypeTree) → DeeperIs d o x → suc (type_nesting x) ≤ d)
types_low zero = (λ o x m. absurd (no_type_at o x m), λ o x m. absurd m)
types_low (suc d) =
    let below = types_low d in
    (λ o x m. node_low (IsType d) (DeeperIs d) d below.0 below.1 o x (type_node_of d o x m), λ o x m. let low : type_nesting x ≤ d = below.0 o x m in omega (arith, low))

pub type_low : (d : ℕ) (o : Bool) (x : TypeTree) → IsType d o x → type_nesting x ≤ d
type_low d o x m = (types_low d).0 o x m

some_node : (I D : Bool → TypeTree → Type 0) (o : Bool) (x : TypeTree) → TypeNode I D o x → 1 ≤ type_nesting x
some_node I D _ _ (g.TypeNode.path {x} {y} is m) = let n : type_nesting x ≡ suc (path_nesting y) = at_type x (TypeTree-F.TypeTree::Path y) is in omega (arith, n)
some_node I D _ _ (g.TypeNode.boxed {owes} {x} {y} {word} {open' = o} {close} is a n b m) = let e : type_nesting x ≡ suc (type_nesting y) = at_type x (TypeTree-F.Boxed word o y close) is in omega (arith, e)
some_node I D _ _ (g.TypeNode.ref {x} {y} {amp} {word_mut} is a b m) = let e : type_nesting x ≡ suc (type_nesting y) = at_type x (TypeTree-F.Ref amp word_mut y) is in omega (arith, e)
some_node I D _ _ (g.TypeNode.ref_ref {x} {y} {amps} {word_mut} is a b m) = let e : type_nesting x ≡ suc (suc (type_nesting y)) = at_type x (TypeTree-F.RefRef amps word_mut y) is in omega (arith, e)
some_node I D _ _ (g.TypeNode.array {x} {y} {open' = o} {semi} {close} {length} is a m b c q) =
    let e : type_nesting x ≡ suc (type_nesting y) = at_type x (TypeTree-F.Array o y semi length close) is in omega (arith, e)
some_node I D _ _ (g.TypeNode.slice {x} {y} {open' = o} {close} is a m b) = let e : type_nesting x ≡ suc (type_nesting y) = at_type x (TypeTree-F.Slice o y close) is in omega (arith, e)
some_node I D _ _ (g.TypeNode.unit {x} {open' = o} {close} is a b) = let e : type_nesting x ≡ 1 = at_type x (TypeTree-F.TypeTree::Unit o close) is in omega (arith, e)
some_node I D _ _ (g.TypeNode.dyn {x} {word} {b} is a m) = let e : type_nesting x ≡ suc (bound_nesting b) = at_type x (TypeTree-F.Dyn word b) is in omega (arith, e)
some_node I D _ _ (g.TypeNode.bare {x} {b} is at m old other) = let e : type_nesting x ≡ suc (bound_nesting b) = at_type x (TypeTree-F.Bare b) is in omega (arith, e)
some_node I D _ _ (g.TypeNode.group {x} {y} {g = gr} is a b m) = let e : type_nesting x ≡ type_nesting y = at_type x (TypeTree-F.TypeTree::Group gr y) is in omega (arith, e, some_node I D false y m)

-- a type that nests no deeper than a number is within it
pub types_within : (e d : ℕ) → ((o : Bool) (x : TypeTree) → IsType e o x → type_nesting x ≤ d → IsType d o x) × ((o : Bool) (x : TypeTree) → DeeperIs e o x → suc (type_nesting x) ≤ d → DeeperIs d o x)
types_within zero d = (λ o x m low. absurd (no_type_at o x m), λ o x m low. absurd m)
types_within (suc e) zero = (λ o x m low. absurd (omega (arith, low, some_node (IsType e) (DeeperIs e) o x (type_node_of e o x m))), λ o x m low. absurd (omega (arith, low)))
types_within (suc e) (suc d) =
    let below = types_within e d in (
      λ o x m low. node_type d o x (node_within (IsType e) (IsType d) (DeeperIs e) (DeeperIs d) d below.0 below.1 o x (type_node_of e o x m) low),
      λ o x m low. below.0 o x m (omega (arith, low)),
    )

pub type_within : (e d : ℕ) (o : Bool) (x : TypeTree) → IsType e o x → type_nesting x ≤ d → IsType d o x
type_within e d o x m low = (types_within e d).0 o x m low

pub path_low_at : (d : ℕ) (x : Path) → PathWithin d x → path_nesting x ≤ d
path_low_at d x m = path_low (TypeWithin d) d (type_low d false) x m

pub path_within_at : (e d : ℕ) (x : Path) → PathWithin e x → path_nesting x ≤ d → PathWithin d x
path_within_at e d x m low = path_within (TypeWithin e) (TypeWithin d) d (type_within e d false) x m low

-- ---- patterns

tuple_at : (x : Pat) (y : Path) (o : Token) (fields : List (Listed Pat)) (c : Token) → out-Pat x ≡ Pat-F.Tuple y o fields c
    → pat_nesting x ≡ suc (max (path_nesting y) (greatest (λ l. pat_nesting l.item) fields))
tuple_at x y o fields c is = at_pat x (Pat-F.Tuple y o fields c) is ∙ ap (λ r. suc (max (path_nesting y) r)) (greatest_map (λ l. l.item) _ fields)

abbrev pub field_nesting : FieldPat Pat → ℕ
field_nesting (field.Full name colon pat) = pat_nesting pat
field_nesting (field.Short word_ref word_mut name) = 0

field_alike : (item : FieldPat Pat) (comma : Option Token) → field_depth (former-Pat-Struct-2-at-8.map Pat ℕ pat_nesting (record { item = item; comma = comma })).item ≡ field_nesting item
field_alike (field.Full name colon pat) comma = refl
field_alike (field.Short word_ref word_mut name) comma = refl

struct_at : (x : Pat) (y : Path) (o : Token) (fields : List (Listed (FieldPat Pat))) (rest : Option Token) (c : Token) → out-Pat x ≡ Pat-F.Struct y o fields rest c
    → pat_nesting x ≡ suc (max (path_nesting y) (greatest (λ l. field_nesting l.item) fields))
struct_at x y o fields rest c is =
    at_pat x (Pat-F.Struct y o fields rest c) is
    ∙ ap (λ r. suc (max (path_nesting y) r)) (greatest_map (λ l. field_depth l.item) _ fields ∙ greatest_alike _ (λ l. field_nesting l.item) (λ l. field_alike l.item l.comma) fields)

module _ (I : Pat → Type 0) (P : Path → Type 0) (d : ℕ) (h : (x : Pat) → I x → pat_nesting x ≤ d) (k : (x : Path) → P x → path_nesting x ≤ d) where
  field_low : (x : FieldPat Pat) → IsField I P x → field_nesting x ≤ d
  field_low (field.Full n c x) m = h x m.2
  field_low (field.Short r m n) q = omega arith

  pat_node_low : (x : Pat) → PatNode I P x → pat_nesting x ≤ suc d
  pat_node_low _ (gp.PatNode.wild {x} {t} is a) = let e : pat_nesting x ≡ 1 = at_pat x (Pat-F.Wild t) is in omega (arith, e)
  pat_node_low _ (gp.PatNode.name {x} {word_ref} {word_mut} {t} is a b c) = let e : pat_nesting x ≡ 1 = at_pat x (Pat-F.Name word_ref word_mut t) is in omega (arith, e)
  pat_node_low _ (gp.PatNode.literal {x} {l} is a) = let e : pat_nesting x ≡ 1 = at_pat x (Pat-F.Literal l) is in omega (arith, e)
  pat_node_low _ (gp.PatNode.range {x} {start} {end} {dots} is a b c) = let e : pat_nesting x ≡ 1 = at_pat x (Pat-F.Range start dots end) is in omega (arith, e)
  pat_node_low _ (gp.PatNode.path {x} {y} is a b) = let e : pat_nesting x ≡ suc (path_nesting y) = at_pat x (Pat-F.Path y) is in omega (arith, e, k y a)
  pat_node_low _ (gp.PatNode.tuple {x} {y} {open' = o} {close = c} {fields} is a b m e) = omega (arith, tuple_at x y o fields c is, k y a, commas_low I pat_nesting d h fields m)
  pat_node_low _ (gp.PatNode.struct {x} {y} {open' = o} {close = c} {fields} {rest} is a b m r e) =
      omega (arith, struct_at x y o fields rest c is, k y a, commas_low (IsField I P) field_nesting d field_low fields m)
  pat_node_low _ (gp.PatNode.group {x} {y} {g = gr} is a b m) = let e : pat_nesting x ≡ pat_nesting y = at_pat x (Pat-F.Group gr y) is in omega (arith, e, pat_node_low y m)

module _ (I J : Pat → Type 0) (P Q : Path → Type 0) (d : ℕ) (h : (x : Pat) → I x → pat_nesting x ≤ d → J x) (k : (x : Path) → P x → path_nesting x ≤ d → Q x) where
  field_within : (x : FieldPat Pat) → IsField I P x → field_nesting x ≤ d → IsField J Q x
  field_within (field.Full n c x) m low = (m.0, m.1, h x m.2 low)
  field_within (field.Short r m n) q low = q

  rest_within : (xs : List (Listed (FieldPat Pat))) (o : Option Token) → IsRest I P xs o → IsRest J Q xs o
  rest_within xs None m = m
  rest_within xs (Some t) m = m

  pat_node_within : (x : Pat) → PatNode I P x → pat_nesting x ≤ suc d → PatNode J Q x
  pat_node_within _ (gp.PatNode.wild is a) low = gp.PatNode.wild is a
  pat_node_within _ (gp.PatNode.name is a b c) low = gp.PatNode.name is a b c
  pat_node_within _ (gp.PatNode.literal is a) low = gp.PatNode.literal is a
  pat_node_within _ (gp.PatNode.range is a b c) low = gp.PatNode.range is a b c
  pat_node_within _ (gp.PatNode.path {x} {y} is a b) low = let e : pat_nesting x ≡ suc (path_nesting y) = at_pat x (Pat-F.Path y) is in gp.PatNode.path is (k y a (omega (arith, low, e))) b
  pat_node_within _ (gp.PatNode.tuple {x} {y} {open' = o} {close = c} {fields} is a b m e) low =
      let n : pat_nesting x ≡ suc (max (path_nesting y) (greatest (λ l. pat_nesting l.item) fields)) = tuple_at x y o fields c is in
      gp.PatNode.tuple is (k y a (omega (arith, low, n))) b (commas_within I J pat_nesting d h fields m (omega (arith, low, n))) e
  pat_node_within _ (gp.PatNode.struct {x} {y} {open' = o} {close = c} {fields} {rest} is a b m r e) low =
      let n : pat_nesting x ≡ suc (max (path_nesting y) (greatest (λ l. field_nesting l.item) fields)) = struct_at x y o fields rest c is in
      gp.PatNode.struct is (k y a (omega (arith, low, n))) b (commas_within (IsField I P) (IsField J Q) field_nesting d field_within fields m (omega (arith, low, n))) (rest_within fields rest r) e
  pat_node_within _ (gp.PatNode.group {x} {y} {g = gr} is a b m) low =
      let e : pat_nesting x ≡ pat_nesting y = at_pat x (Pat-F.Group gr y) is in gp.PatNode.group is a b (pat_node_within y m (omega (arith, low, e)))

pub pat_low : (d : ℕ) (x : Pat) → IsPat d x → pat_nesting x ≤ d
pat_low zero x m = absurd (no_pat_at x m)
pat_low (suc d) x m = pat_node_low (IsPat d) (PathWithin d) d (pat_low d) (path_low_at d) x (pat_node_of d x m)

some_pat : (I : Pat → Type 0) (P : Path → Type 0) (x : Pat) → PatNode I P x → 1 ≤ pat_nesting x
some_pat I P _ (gp.PatNode.wild {x} {t} is a) = let e : pat_nesting x ≡ 1 = at_pat x (Pat-F.Wild t) is in omega (arith, e)
some_pat I P _ (gp.PatNode.name {x} {word_ref} {word_mut} {t} is a b c) = let e : pat_nesting x ≡ 1 = at_pat x (Pat-F.Name word_ref word_mut t) is in omega (arith, e)
some_pat I P _ (gp.PatNode.literal {x} {l} is a) = let e : pat_nesting x ≡ 1 = at_pat x (Pat-F.Literal l) is in omega (arith, e)
some_pat I P _ (gp.PatNode.range {x} {start} {end} {dots} is a b c) = let e : pat_nesting x ≡ 1 = at_pat x (Pat-F.Range start dots end) is in omega (arith, e)
some_pat I P _ (gp.PatNode.path {x} {y} is a b) = let e : pat_nesting x ≡ suc (path_nesting y) = at_pat x (Pat-F.Path y) is in omega (arith, e)
some_pat I P _ (gp.PatNode.tuple {x} {y} {open' = o} {close = c} {fields} is a b m e) = omega (arith, tuple_at x y o fields c is)
some_pat I P _ (gp.PatNode.struct {x} {y} {open' = o} {close = c} {fields} {rest} is a b m r e) = omega (arith, struct_at x y o fields rest c is)
some_pat I P _ (gp.PatNode.group {x} {y} {g = gr} is a b m) = let e : pat_nesting x ≡ pat_nesting y = at_pat x (Pat-F.Group gr y) is in omega (arith, e, some_pat I P y m)

pub pat_within : (e d : ℕ) (x : Pat) → IsPat e x → pat_nesting x ≤ d → IsPat d x
pat_within zero d x m low = absurd (no_pat_at x m)
pat_within (suc e) zero x m low = absurd (omega (arith, low, some_pat (IsPat e) (PathWithin e) x (pat_node_of e x m)))
pat_within (suc e) (suc d) x m low =
    node_pat d x (pat_node_within (IsPat e) (IsPat d) (PathWithin e) (PathWithin d) d (pat_within e d) (path_within_at e d) x (pat_node_of e x m) low)

pub top_low : (d : ℕ) (x : TopPat) → IsTopPat d x → top_nesting x ≤ d
top_low d _ (gp.IsTopPat.alternatives {x} {list} is m) = go list m (at_top x (TopPat-F.Alternatives list) is)
  where
    go : (xs : List Alternative) → Alternatives d xs → top_nesting x ≡ greatest (λ a. pat_nesting a.pat) xs → top_nesting x ≤ d
    go [] m e = absurd m
    go (a ∷ more) m e = omega (arith, e, pat_low d a.pat m.1, each_low (NextIs d) (λ a. pat_nesting a.pat) d (λ a m. pat_low d a.pat m.1) more m.2)
top_low d _ (gp.IsTopPat.group {x} {y} {g = gr} is k b ps m) = let e : top_nesting x ≡ top_nesting y = at_top x (TopPat-F.Group gr y) is in omega (arith, e, top_low d y m)

pub top_within : (e d : ℕ) (x : TopPat) → IsTopPat e x → top_nesting x ≤ d → IsTopPat d x
top_within e d _ (gp.IsTopPat.alternatives {x} {list} is m) low = gp.IsTopPat.alternatives is (go list m (at_top x (TopPat-F.Alternatives list) is))
  where
    go : (xs : List Alternative) → Alternatives e xs → top_nesting x ≡ greatest (λ a. pat_nesting a.pat) xs → Alternatives d xs
    go [] m n = absurd m
    go (a ∷ more) m n = (
      m.0,
      pat_within e d a.pat m.1 (omega (arith, low, n)),
      each_within (NextIs e) (NextIs d) (λ a. pat_nesting a.pat) d (λ a m low. (m.0, pat_within e d a.pat m.1 low)) more m.2 (omega (arith, low, n)),
    )
top_within e d _ (gp.IsTopPat.group {x} {y} {g = gr} is k b ps m) low =
    let n : top_nesting x ≡ top_nesting y = at_top x (TopPat-F.Group gr y) is in gp.IsTopPat.group is k b ps (top_within e d y m (omega (arith, low, n)))
