-- Where an item of a file should begin.
use Rattle.std.proofs.Common.{◌≡◌, ℕ, List, [], ◌∷◌, ◌++◌, refl, sym, ap, subst, ◌∙◌, append_assoc}
use Rattle.em_base.specs.declared.token.Token.{Token}
use Rattle.em_tree.specs.declared.item.FileAttribute.{FileAttribute}
use Rattle.em_tree.specs.declared.item.Item.{Item}
use Rattle.em_tree.specs.declared.piece.Piece.{Piece}
use Rattle.em_tree.specs.declared.piece.Piece.TheVariants as p
use Rattle.em_tree.specs.Parts.{each}
use Rattle.em_tree.specs.Starts.{Pieces}
use Rattle.em_tree.specs.ItemGrammar.{file_attribute_pieces, item_pieces}
use Rattle.std.specs.Prelude.{Result, Err}
use Rattle.em_read.specs.declared.stop.Stop.{Stop}
use Rattle.em_read.specs.declared.stop.Stop.TheVariants as stop
use Rattle.em_parse.specs.Calls.{of_tokens, AreItems, Attributes, NoItemStands, DeepItemStands, ItemBegins, NoItemAt, DeepItemAt}
use Rattle.em_parse.specs.Parts.{ItemsStop}

tail_of : (x y : Piece) (xs ys : Pieces) → x ∷ xs ≡ y ∷ ys → xs ≡ ys
tail_of x y xs ys is = cc

-- what tokens end in are tokens
ends_so : (tokens : List Token) (xs rest : Pieces) → of_tokens tokens ≡ xs ++ rest → (us : List Token) × (rest ≡ of_tokens us)
ends_so tokens [] rest is = (tokens, sym is)
ends_so [] (x ∷ xs) rest is = cc
ends_so (t ∷ ts) (x ∷ xs) rest is = ends_so ts xs rest (tail_of (p.Token t) x (of_tokens ts) (xs ++ rest) is)

begins_at : (begins : Pieces → Type 0) (tokens : List Token) (attributes : List FileAttribute) (behind : Pieces) (items : List Item) (rest : Pieces) (offset : ℕ) → Attributes (of_tokens tokens) attributes behind
    → AreItems behind items rest → (rest ≡ [] → ⊥) → begins rest → ((first : Token) (more : Pieces) → rest ≡ p.Token first ∷ more → offset ≡ first.span.start) → ItemBegins tokens offset begins
begins_at begins tokens attributes behind items rest offset fronts before some stands at =
    let last = ends_so tokens (each file_attribute_pieces attributes ++ each item_pieces items) rest
    (fronts.yields ∙ ap (λ k. each file_attribute_pieces attributes ++ k) before.yields ∙ sym (append_assoc (each file_attribute_pieces attributes) (each item_pieces items) rest)) in
    go last.0 last.1
  where
    go : (us : List Token) → rest ≡ of_tokens us → ItemBegins tokens offset begins
    go [] is = absurd (some is)
    go (t ∷ us) is = record {
      attributes = attributes;
      behind = behind;
      fronts = fronts;
      items = items;
      first = t;
      rest = of_tokens us;
      before = subst (λ k. AreItems behind items k) is before;
      at = at t (of_tokens us) is;
      stands = subst (λ k. begins k) is stands;
    }

pub no_item : (tokens : List Token) (attributes : List FileAttribute) (pieces behind rest : Pieces) (offset : ℕ) → pieces ≡ of_tokens tokens → Attributes pieces attributes behind → ItemsStop behind stop.Absent rest
    → ((first : Token) (more : Pieces) → rest ≡ p.Token first ∷ more → offset ≡ first.span.start) → NoItemAt tokens offset
no_item tokens attributes pieces behind rest offset is fronts h at = begins_at NoItemStands tokens attributes behind h.0 rest offset (subst (λ k. Attributes k attributes behind) is fronts) h.1 h.2 h.3 at

pub deep_item : (tokens : List Token) (attributes : List FileAttribute) (pieces behind rest : Pieces) (offset : ℕ) → pieces ≡ of_tokens tokens → Attributes pieces attributes behind → ItemsStop behind stop.Deep rest
    → ((first : Token) (more : Pieces) → rest ≡ p.Token first ∷ more → offset ≡ first.span.start) → DeepItemAt tokens offset
deep_item tokens attributes pieces behind rest offset is fronts h at = begins_at DeepItemStands tokens attributes behind h.0 rest offset (subst (λ k. Attributes k attributes behind) is fronts) h.1 h.2 h.3 at
