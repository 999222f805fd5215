-- Lists of items, one at a time.
use Rattle.std.proofs.lemmas.List.{append-nil}
use Rattle.std.proofs.Common.{◌≡◌, ◌⊎◌, ℕ, suc, ◌+◌, ◌≤◌, ◌<◌, true, List, [], ◌∷◌, ◌++◌, length, length-append, refl, sym, ◌∙◌, ap, subst, append_assoc, arith, inl, inr}
use Rattle.em_tree.specs.declared.item.Item.{Item}
use Rattle.em_tree.specs.Parts.{each}
use Rattle.em_tree.specs.Starts.{Pieces}
use Rattle.em_tree.specs.Tokens.{Each}
use Rattle.em_tree.specs.ItemGrammar.{IsItem, item_pieces}
use Rattle.em_tree.specs.Nesting.{item_nesting}
use Rattle.em_grammar.specs.Reader.{Found, Absent}
use Rattle.em_grammar.specs.Pairs.{Begins}
use Rattle.em_grammar.specs.ItemReader.{item_start, item_in}
use Rattle.em_grammar.specs.ItemLaws.{ItemsRead, ItemsExact}
use Rattle.em_grammar.specs.NestLaws.{ItemsNest}
use Rattle.std.specs.Prelude.{Result, Err}
use Rattle.em_read.specs.declared.stop.Stop.{Stop}
use Rattle.em_read.specs.declared.stop.Stop.TheVariants as stop
use Rattle.em_read.specs.Parse.{Reads}
use Rattle.em_parse.specs.Calls.{most, AreItems, NoItemStands}
use Rattle.em_parse.specs.Parts.{Stops}
use Rattle.em_parse.proofs.Limit.{absent_not_deep}

pub start : (i : Pieces) → AreItems i [] i
start i = record { trees = tt; yields = refl }

each_more : (xs : List Item) (x : Item) → Each (IsItem most) xs → IsItem most x → Each (IsItem most) (xs ++ x ∷ [])
each_more [] x h m = (m, tt)
each_more (y ∷ ys) x h m = (h.0, each_more ys x h.1 m)

yield_more : (xs : List Item) (x : Item) (r : Pieces) → each item_pieces xs ++ (item_pieces x ++ r) ≡ each item_pieces (xs ++ x ∷ []) ++ r
yield_more [] x r = ap (λ k. k ++ r) (sym (append-nil (item_pieces x)))
yield_more (y ∷ ys) x r =
    append_assoc (item_pieces y) (each item_pieces ys) (item_pieces x ++ r) ∙ ap (λ k. item_pieces y ++ k) (yield_more ys x r) ∙ sym (append_assoc (item_pieces y) (each item_pieces (ys ++ x ∷ [])) r)

pub more : ItemsExact → ItemsNest → (i : Pieces) (xs : List Item) (r : Pieces) (x : Item) (s : Pieces) → AreItems i xs r → item_in most most r ≡ Found x s → item_nesting x ≤ most
    → AreItems i (xs ++ x ∷ []) s
more exact nest i xs r x s h is fits =
    let found = exact.found most most r x s is in
    record {
      trees = each_more xs x h.trees ((nest found.0.0 most x found.0.1).1 fits);
      yields = h.yields ∙ ap (λ k. each item_pieces xs ++ k) found.1 ∙ yield_more xs x s;
    }

some_piece : (ys s : Pieces) → ((ys ≡ []) → ⊥) → length s < length (ys ++ s)
some_piece [] s none = absurd (none refl)
some_piece (y ∷ ys) s none = omega (arith, length-append ys s)

-- an item has a piece
pub shorter : ItemsRead → ItemsExact → (r : Pieces) (x : Item) (s : Pieces) → item_in most most r ≡ Found x s → length s < length r
shorter read exact r x s is =
    let found = exact.found most most r x s is in
    let begins = (read 0 found.0.0).begins found.0.0 x (omega arith) found.0.1 in
    subst (λ k. length s < length k) (sym found.1) (some_piece (item_pieces x) s (λ e. subst (λ k. Begins item_start k) e begins))

pub none_stands : ItemsExact → (i : Pieces) → item_in most most i ≡ Absent → NoItemStands i
none_stands exact i is = record { none = λ d x rest m e. exact.none most most i is d x rest m e; shallow = absent_not_deep item_nesting (item_in most most i) is }

pub stops : ItemsExact → (i : Pieces) (why : Stop) (new : Pieces) → Reads (item_in most most i) (Err why) new → Stops why i
stops exact i stop.NoMemory new h = tt
stops exact i stop.Absent new h = none_stands exact i h
stops exact i stop.Deep new h = inl h

pub deep : (i : Pieces) (x : Item) (r : Pieces) → item_in most most i ≡ Found x r → most < item_nesting x → Stops stop.Deep i
deep i x r is h = inr (x, r, is, h)
