-- Parts of types, as the code has them, and what it asks of paths.
use Rattle.std.specs.Prelude.{Bool, List, [], ◌∷◌, Option, Some, None}
use Rattle.em_base.specs.declared.edition.Edition.{Edition}
use Rattle.em_base.specs.declared.token.Token.{Token}
use Rattle.em_tree.specs.declared.types.Path.{Path}
use Rattle.em_tree.specs.declared.types.Output.{Output}
use Rattle.em_tree.specs.declared.types.Output.TheVariants as output
use Rattle.em_tree.specs.declared.types.Bound.{Bound}
use Rattle.em_tree.specs.declared.types.Bound.TheVariants as bound
use Rattle.em_tree.specs.declared.types.TypeTree.{TypeTree}
use Rattle.em_tree.specs.Starts.{Pieces}
use Rattle.em_grammar.specs.declared.sort.Weak.TheVariants as weak
use Rattle.em_grammar.specs.declared.sort.Written.TheVariants as word
use Rattle.em_grammar.specs.Sets.{is_sign}
use Rattle.em_grammar.specs.Reader.{Read, token, seq, mapped, opt, or_else, when}
use Rattle.em_grammar.specs.TypeReader as spec
use Rattle.em_read_types.specs.declared.types.Call.{Call}
use Rattle.em_read_types.specs.declared.types.Suffix.{Suffix}
use Rattle.em_read_types.specs.declared.types.Suffix.TheVariants as suffix

-- what stands between the parentheses of a bound, and its output
abbrev pub call_of : Call × Bool → spec.CallParts
call_of t = (t.0.«open», (t.0.inputs, (t.0.close, (t.0.output, t.1))))

abbrev pub suffix_as : Suffix → spec.Suffix
suffix_as suffix.Nothing = spec.nothing
suffix_as (suffix.Angle o x c) = spec.angle o x c
suffix_as (suffix.Object b) = spec.object b
suffix_as (suffix.Call c) = spec.call c.«open» c.inputs c.close c.output

abbrev pub suffix_of : Suffix × Bool → spec.Suffix × Bool
suffix_of t = (suffix_as t.0, t.1)

-- the first token of segments
abbrev pub front : Option Token → Option Token → Token → Token
front (Some lead) dollar name = lead
front None (Some dollar) name = dollar
front None None name = name

abbrev pub edition_of : List Token → Option Edition
edition_of [] = None
edition_of (t ∷ ts) = Some t.edition

abbrev pub called : Path → Call → Bound
called x c = bound.Call x c.«open» c.inputs c.close c.output

-- an output with its arrow
abbrev pub arrow_of : Token × (TypeTree × Bool) → Output × Bool
arrow_of t = (output.Type t.0 t.1.0, t.1.1)

abbrev pub arrow_part : (Pieces → Read (TypeTree × Bool)) → Pieces → Read (Output × Bool)
arrow_part inner = mapped arrow_of (seq (token (is_sign word.RArrow)) inner)

-- what stands behind a path that isn't `Box`, and one that isn't `dyn` either
module _ (inner : Bool → Pieces → Read (TypeTree × Bool)) (path : Pieces → Read Path) where
  abbrev pub call_suffix : Bool → Path → Pieces → Read (spec.Suffix × Bool)
  call_suffix may x = mapped spec.or_nothing (opt (when (spec.callable x) (spec.call_suffix inner path may)))

  abbrev pub dyn_suffix : Bool → Path → Pieces → Read (spec.Suffix × Bool)
  dyn_suffix may x = or_else (when (spec.is_lone weak.Dyn (spec.alone x)) (spec.object_suffix inner path may)) (call_suffix may x)
