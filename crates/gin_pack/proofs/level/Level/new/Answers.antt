use Rattle.std.proofs.Common.{[], arith, List, refl, subst, sym}
use Rattle.std.specs.List.{AllZip}
use Rattle.gin_pack.specs.Pass.Filling.{HasItems}
use Rattle.gin_pack.specs.declared.level.FullPage.{FullPage}
use Rattle.gin_pack.proofs.Fillings.{no-items}
use Rattle.gin_pack.proofs.level.Level.new.Goals as goal

pub returns : goal.returns
returns c =
    λ kind. record {
      put = record {
        pages = [];
        last = [];
        all = refl;
        holds = record {
          flags_are = refl;
          full = subst (λ (pages : List FullPage). AllZip (HasItems kind c.args.flags) [] pages) (sym c.new.ensures.items) tt;
          filled = tt;
          open_has = no-items kind c.args.flags _ c.in_ok-page.ensures;
          count = refl;
          free = refl;
        };
      };
      some = λ one. absurd (omega arith);
    }
