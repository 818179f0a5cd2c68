use Rattle.std.proofs.Common.{◌∙◌}
use Rattle.desk.proofs.Program.{as_program}
use Rattle.desk.proofs.run.Goals as goal

pub serve-requires : goal.serve-requires
serve-requires g c =
    as_program _ _ _ c.fill_numbers.ensures (c.as_flattened-names.ensures.value ∙ c.names-names.ensures) (c.as_flattened-topup.ensures.value ∙ c.ten_and_91-topup.ensures)
