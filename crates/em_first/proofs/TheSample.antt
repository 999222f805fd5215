-- The sample has the first form.
use Rattle.std.proofs.Common.{◌≡◌, ℕ, Bool, true, false, cond, ◌&&◌, List, [], ◌∷◌, length, codes, refl, sym, ap, ◌∙◌}
use Rattle.std.specs.Prelude.{Option, Some, None, slice_get, slice_index}
use Rattle.em_base.specs.declared.edition.Edition.TheVariants.{E2015}
use Rattle.em_base.specs.Words.{class_of}
use Rattle.em_first.specs.Form.{name_in}
use Rattle.em_first.specs.Sample.{sample, statements, HasSample, KeepsSample, SampleBegins, SamplePrints}
use Rattle.em_first.proofs.Keeps.{keeps_core}

pub has_sample : HasSample
unfolding class_of
has_sample = (
  _,
  (_, _, refl, refl, (_, _, refl, refl, (_, _, refl, refl, (_, _, refl, refl, (_, _, refl, refl, refl))))),
  (
    codes "async",
    _,
    record {
      behind_let = _;
      behind_name = _;
      behind_equals = _;
      behind_int = _;
      is_let = (_, _, refl, refl, refl);
      is_name = (_, refl, refl);
      is_equals = (_, _, refl, refl, refl);
      is_int = (_, refl, refl);
      ends = (_, _, refl, refl, refl);
    },
    (
      codes "async",
      _,
      record {
        behind_let = _;
        behind_name = _;
        behind_equals = _;
        behind_int = _;
        is_let = (_, _, refl, refl, refl);
        is_name = (_, refl, refl);
        is_equals = (_, _, refl, refl, refl);
        is_int = (_, refl, refl);
        ends = (_, _, refl, refl, refl);
      },
      (
        codes "async",
        _,
        record {
          behind_comma = _;
          behind_name = _;
          is_print = (_, _, refl, refl, (_, _, refl, refl, (_, _, refl, refl, (_, _, refl, refl, (_, _, refl, refl, refl)))));
          is_name = (_, refl, refl);
          ends = (_, _, refl, refl, (_, _, refl, refl, refl));
        },
        refl,
        (_, _, refl, refl, refl),
      ),
    ),
  ),
)

pub keeps_sample : KeepsSample
keeps_sample = keeps_core 0 sample statements has_sample

pub sample_begins : SampleBegins
sample_begins = refl

pub sample_prints : SamplePrints
sample_prints = refl
