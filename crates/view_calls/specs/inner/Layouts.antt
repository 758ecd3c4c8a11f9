-- A layout where nothing is drawn.
use Rattle.std.specs.Prelude.{[], false}
use Rattle.run_picture.specs.meaning.Elements.{Layout}

abbrev pub no_layout : Layout
no_layout =
    record {
      width = 0;
      height = 0;
      frame = [];
      shows = λ position. false;
      place = λ number. record { left = 0; top = 0; width = 0; height = 0; across = 0; base = 0 };
    }
