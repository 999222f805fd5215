-- How paths are read.
use Rattle.std.specs.Prelude.{ℕ, zero, suc, Bool, true, false, ◌||◌, List, [], ◌∷◌, Option, Some, None}
use Rattle.em_base.specs.declared.token.Token.{Token}
use Rattle.em_tree.specs.declared.piece.FragmentKind.{FragmentKind}
use Rattle.em_tree.specs.declared.piece.FragmentKind.TheVariants as fk
use Rattle.em_tree.specs.declared.piece.Group.{Group}
use Rattle.em_tree.specs.declared.types.Segment.{Segment}
use Rattle.em_tree.specs.declared.types.PathStep.{PathStep}
use Rattle.em_tree.specs.declared.types.Segments.{Segments}
use Rattle.em_tree.specs.declared.types.Path.{Path}
use Rattle.em_tree.specs.declared.types.Path.TheVariants as made
use Rattle.em_tree.specs.declared.types.Bound.TheViews.{roll-Qualified}
use Rattle.em_tree.specs.declared.types.TypeTree.{TypeTree}
use Rattle.em_tree.specs.Starts.{Pieces, kind_of}
use Rattle.em_grammar.specs.declared.sort.Written.{Written}
use Rattle.em_grammar.specs.declared.sort.Written.TheVariants as word
use Rattle.em_grammar.specs.declared.sort.Sort.{Sort}
use Rattle.em_grammar.specs.Sorts.{sort_of}
use Rattle.em_grammar.specs.Sets.{Set, either, tokens, groups, others, only, is_sign, any_of, name_sort}
use Rattle.em_grammar.specs.Reader.{Read, Deep, token, seq, mapped, choice, opt, all_of, group}

-- ---- segments

-- the words that are segments, in the order of the grammar
abbrev pub roots : List Written
roots = word.Crate ∷ word.SelfValue ∷ word.Super ∷ word.SelfType ∷ []

abbrev pub root_sort : Sort → Bool
root_sort s = name_sort s || any_of roots s

abbrev pub segment_first : Set
segment_first = either (tokens (only word.Dollar)) (tokens root_sort)

abbrev pub plain_segment : Token → Segment
plain_segment t = record { dollar = None; name = t }

abbrev pub crate_segment : Token × Token → Segment
crate_segment t = record { dollar = Some t.0; name = t.1 }

abbrev pub segment : Pieces → Read Segment
segment = choice (tokens (only word.Dollar)) (mapped crate_segment (seq (token (is_sign word.Dollar)) (token (is_sign word.Crate)))) (mapped plain_segment (token (λ t. root_sort (sort_of t))))

abbrev pub step_of : Token × Segment → PathStep
step_of t = record { separator = t.0; segment = t.1 }

abbrev pub step : Pieces → Read PathStep
step = mapped step_of (seq (token (is_sign word.PathSep)) segment)

abbrev pub segments_of : Option Token × (Segment × List PathStep) → Segments
segments_of t = record { lead = t.0; first = t.1.0; more = t.1.1 }

abbrev pub segments_first : Set
segments_first = either (tokens (only word.PathSep)) segment_first

abbrev pub segments : Pieces → Read Segments
segments = mapped segments_of (seq (opt (token (is_sign word.PathSep))) (seq segment (all_of step)))

-- ---- paths

abbrev pub path_kind : FragmentKind → Bool
path_kind fk.Path = true
path_kind _ = false

abbrev pub is_path_group : Group → Bool
is_path_group g = path_kind (kind_of g)

abbrev pub plain_first : Set
plain_first = either segments_first (groups path_kind)

abbrev pub path_first : Set
path_first = either segments_first (either (tokens (only word.Lt)) (groups path_kind))

-- what may follow a path
abbrev pub path_clear : Set
path_clear = others (tokens (only word.PathSep))

abbrev pub path_group_of : Group × Path → Path
path_group_of t = made.Group t.0 t.1

abbrev pub plain_of : Segments → Path
plain_of s = made.Plain s

abbrev pub qualified_of : Token × (TypeTree × (Token × (Path × (Token × (Token × Token))))) → Path
qualified_of t = made.Qualified (roll-Qualified (record {
  «open» = t.0;
  self_type = t.1.0;
  word = t.1.1.0;
  of_trait = t.1.1.1.0;
  close = t.1.1.1.1.0;
  separator = t.1.1.1.1.1.0;
  name = t.1.1.1.1.1.1;
}))

-- a path without `<`, where the pieces of a group are read by `opened`
abbrev pub plain_path : (Pieces → Read Path) → Pieces → Read Path
plain_path opened = choice segments_first (mapped plain_of segments) (mapped path_group_of (group is_path_group opened))

-- groups in one another up to the number
unfoldable pub plain_path_in : ℕ → Pieces → Read Path
plain_path_in zero i = plain_path (λ i. Deep) i
plain_path_in (suc n) i = plain_path (plain_path_in n) i

-- `<T as Trait>::name`
abbrev pub qualified : (Pieces → Read TypeTree) → (Pieces → Read Path) → Pieces → Read Path
qualified ty plain =
    mapped qualified_of (seq (token (is_sign word.Lt)) (seq ty (seq (token (is_sign word.As)) (seq plain
    (seq (token (is_sign word.Gt)) (seq (token (is_sign word.PathSep)) (token (λ t. name_sort (sort_of t)))))))))

-- a path, whose types are read by `ty`
unfoldable pub path_node : (Pieces → Read TypeTree) → (Pieces → Read Path) → (Pieces → Read Path) → Pieces → Read Path
path_node ty plain opened i = choice segments_first (mapped plain_of segments) (choice (tokens (only word.Lt)) (qualified ty plain) (mapped path_group_of (group is_path_group opened))) i
