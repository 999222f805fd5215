-- A tree within the limit is the answer to its own yield.
use Rattle.std.proofs.lemmas.List.{append-nil}
use Rattle.std.proofs.Common.{◌≡◌, inl, inr, ◌≤◌, Bool, true, false, ◌&&◌, [], ◌∷◌, length, length-append, drop, refl, sym, ◌∙◌, ap, subst, arith}
use Rattle.std.specs.Prelude.{Ok, Err}
use Rattle.em_base.specs.declared.edition.Edition.{Edition}
use Rattle.em_tree.specs.declared.fragment.FragError.TheVariants as frag
use Rattle.em_tree.specs.declared.fragment.Fragment.{Fragment}
use Rattle.em_tree.specs.declared.fragment.FragmentNode.{FragmentNode}
use Rattle.em_tree.specs.declared.piece.FragmentKind.{FragmentKind}
use Rattle.em_tree.specs.Starts.{Pieces, starts}
use Rattle.em_tree.specs.FragmentGrammar.{Reads, DynStays, kind_of_node, ends_in_dyn}
use Rattle.em_grammar.specs.ExprLaws.{BodiesRead, OneBody}
use Rattle.em_grammar.specs.Laws.{GroupsNest}
use Rattle.em_grammar.specs.NestLaws.{BodiesNest, FragmentsNest}
use Rattle.em_parse.specs.declared.error.ParseError.TheVariants as parse
use Rattle.em_parse.specs.Calls.{most, Begins, IsLongest}
use Rattle.em_parse.specs.Decided.{FilesAreDecided, ListsAreDecided}
use Rattle.em_parse.specs.Laws.{FilesAreReadAgain, ListsAreReadAgain, BodiesAreReadAgain, FragmentsAreReadAgain}
use Rattle.em_parse.specs.Parts.{Readings}
use Rattle.em_parse.proofs.DecidedBodies.{all_taken, body_not_deep, whole_not_deep}
use Rattle.em_parse.proofs.OwnYields.{one_fragment}

pub files_again : FilesAreDecided → FilesAreReadAgain
files_again decided tokens x (Ok y) h a = inl (ap (λ k. Ok k) ((decided tokens).one y x a.0 h))
files_again decided tokens x (Err parse.NoMemory) h a = inr refl
files_again decided tokens x (Err (parse.NoItem offset)) h a = absurd ((decided tokens).no_item x offset h a.1)
files_again decided tokens x (Err (parse.Depth offset)) h a = absurd ((decided tokens).not_deep x offset h a.1)

pub lists_again : ListsAreDecided → ListsAreReadAgain
lists_again decided i xs (Ok ys) w h a = inl (ap (λ k. Ok k) ((decided i w).one ys xs a.0 h))
lists_again decided i xs (Err frag.NoMemory) w h a = inr refl
lists_again decided i xs (Err frag.CannotStart) w h a = absurd a.1
lists_again decided i xs (Err frag.Broken) w h a = absurd ((decided i w).not_broken xs h a.1)
lists_again decided i xs (Err frag.Depth) w h a = absurd ((decided i w).not_deep xs h a.1)

pub bodies_again : BodiesRead → OneBody → BodiesNest → BodiesAreReadAgain
bodies_again read one nest i x (Ok y) w m is a = inl (ap (λ k. Ok k) (one most most y x a.0.within m (sym a.0.yields ∙ is)))
bodies_again read one nest i x (Err frag.NoMemory) w m is a = inr refl
bodies_again read one nest i x (Err frag.CannotStart) w m is a = absurd a.1
bodies_again read one nest i x (Err frag.Broken) w m is a = absurd (a.1.none most x m is)
bodies_again read one nest i x (Err frag.Depth) w m is a = absurd (body_not_deep read nest i x w m is a.1)

-- ---- fragments

and_false : (b : Bool) → (b && false) ≡ false
and_false true = refl
and_false false = refl

-- behind the last piece nothing makes a `dyn` the keyword
stays_last : (i : Pieces) → DynStays i []
stays_last i longer [] depth y is at m size = and_false (ends_in_dyn longer)
stays_last i longer (x ∷ after) depth y is at m size = absurd (omega (arith, size, ap (λ k. length k) is, length-append i [], length-append longer (x ∷ after)))

begins_whole : (kind : FragmentKind) (e : Edition) (i : Pieces) (x : FragmentNode) → kind_of_node x ≡ kind → Reads e most i x → Begins kind e most i i [] x
begins_whole kind e i x is h = (sym (append-nil i), is, record { reads = h; stays = λ _. stays_last i })

whole_node : Readings → GroupsNest → (kind : FragmentKind) (e : Edition) (i : Pieces) (x : FragmentNode) (f : Fragment) → kind_of_node x ≡ kind → Reads e most i x → IsLongest kind e i f → f.node ≡ x
whole_node k nest kind e i x f is h a =
    let size : length i ≤ f.taken = a.longest most x i [] (begins_whole kind e i x is h) in
    let same : i ≡ f.pieces.list = all_taken i f.pieces.list (drop f.taken i) a.begins.0 (omega (arith, size, a.taken_is)) in
    one_fragment k nest e most most f.node x (a.begins.1 ∙ sym is) a.begins.2.reads.tree h.tree (sym a.begins.2.reads.yields ∙ sym same ∙ h.yields)

pub fragments_again : Readings → GroupsNest → FragmentsNest → FragmentsAreReadAgain
fragments_again k nest nests kind e i x (Ok f) w is h a = inl (f, refl, whole_node k nest kind e i x f is h a.0)
fragments_again k nest nests kind e i x (Err frag.NoMemory) w is h a = inr refl
fragments_again k nest nests kind e i x (Err frag.CannotStart) w is h a =
    let can : starts kind e i ≡ true = subst (λ kind. starts kind e i ≡ true) is h.starts in
    let cannot : starts kind e i ≡ false = a.1 in
    cc
fragments_again k nest nests kind e i x (Err frag.Broken) w is h a = absurd (a.1.none most x i [] (begins_whole kind e i x is h))
fragments_again k nest nests kind e i x (Err frag.Depth) w is h a = absurd (whole_not_deep k nest nests kind e i x is h w a.1)
