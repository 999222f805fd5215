-- Parts of paths.
use Rattle.em_base.specs.declared.token.Token.{Token}
use Rattle.em_tree.specs.declared.types.Path.{Path}
use Rattle.em_tree.specs.declared.types.TypeTree.{TypeTree}
use Rattle.em_tree.specs.Starts.{Pieces}
use Rattle.em_grammar.specs.declared.sort.Written.TheVariants as word
use Rattle.em_grammar.specs.Sorts.{sort_of}
use Rattle.em_grammar.specs.Sets.{Set, either, tokens, only, is_sign, name_sort}
use Rattle.em_grammar.specs.Reader.{Read, token, seq, mapped, choice, group}
use Rattle.em_grammar.specs.PathReader.{segments_first, segments, plain_of, qualified, qualified_of, path_group_of, is_path_group}
use Rattle.em_read_types.specs.declared.qualified.NamePart.{NamePart}
use Rattle.em_read_types.specs.declared.qualified.TraitPart.{TraitPart}

-- of paths that are no groups
abbrev pub path_token_first : Set
path_token_first = either segments_first (tokens (only word.Lt))

abbrev pub path_token : (Pieces → Read TypeTree) → (Pieces → Read Path) → Pieces → Read Path
path_token ty plain = choice segments_first (mapped plain_of segments) (qualified ty plain)

abbrev pub path_group : (Pieces → Read Path) → Pieces → Read Path
path_group opened = mapped path_group_of (group is_path_group opened)

-- parts of `<T as Trait>::name`
abbrev pub name_part : Pieces → Read (Token × (Token × Token))
name_part = seq (token (is_sign word.Gt)) (seq (token (is_sign word.PathSep)) (token (λ t. name_sort (sort_of t))))

abbrev pub name_of : NamePart → Token × (Token × Token)
name_of x = (x.close, (x.separator, x.name))

abbrev pub trait_part : (Pieces → Read Path) → Pieces → Read (Token × (Path × (Token × (Token × Token))))
trait_part plain = seq (token (is_sign word.As)) (seq plain name_part)

abbrev pub trait_of : TraitPart → Token × (Path × (Token × (Token × Token)))
trait_of x = (x.word, (x.of_trait, name_of x.rest))

abbrev pub qualified_path : Token → TypeTree → TraitPart → Path
qualified_path o ty x = qualified_of (o, (ty, trait_of x))
