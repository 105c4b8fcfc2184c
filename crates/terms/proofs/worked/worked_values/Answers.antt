use Rattle.std.proofs.Common.{refl, lit<}
use Rattle.offers.specs.Levels.{first_from}
use Rattle.terms.specs.Choice.Choice.{empty, next}
use Rattle.terms.proofs.worked.worked_values.Goals as goal

pub returns : goal.returns
unfolding first_from
returns c =
    record {
      count = refl;
      stand = (
        refl,
        (
          refl,
          (
            refl,
            (
              refl,
              (
                refl,
                (
                  refl,
                  (
                    refl,
                    (
                      refl,
                      (
                        refl,
                        (
                          refl,
                          (
                            next (next empty (lit< tt) refl) (lit< tt) refl,
                            (
                              next (next empty (lit< tt) refl) (lit< tt) refl,
                              (
                                next (next empty (lit< tt) refl) (lit< tt) refl,
                                (next (next empty (lit< tt) refl) (lit< tt) refl, tt),
                              ),
                            ),
                          ),
                        ),
                      ),
                    ),
                  ),
                ),
              ),
            ),
          ),
        ),
      );
    }
