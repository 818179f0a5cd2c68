use Rattle.model.specs.Queue.{result_line}
use Rattle.text.proofs.Putting.{fields_then, at_front}
use Rattle.queue.proofs.Steps.{fields-line}
use native.Mathlib.Omega.{arith}
use Rattle.model.proofs.DecimalLaws.{dec_most}
use Rattle.queue.proofs.write_result.Goals as goal

pub put_digits-first-requires : goal.put_digits-first-requires
put_digits-first-requires c = omega (arith, c.requires, dec_most c.args.x.date)

pub put_numbers-p-requires : goal.put_numbers-p-requires
put_numbers-p-requires c =
    omega (arith, c.requires, dec_most c.args.x.date, c.put_digits-first.ensures.place, c.put_digits-first.auto)

pub put_end-end-requires : goal.put_end-end-requires
put_end-end-requires c =
    omega (arith, c.requires, dec_most c.args.x.date, c.put_digits-first.ensures.place, c.put_digits-first.auto, c.put_numbers-p.ensures.1, c.put_numbers-p.auto)

pub bounds-buffer-end : goal.bounds-buffer-end
bounds-buffer-end c =
    omega (arith, c.requires, dec_most c.args.x.date, c.put_digits-first.ensures.place, c.put_digits-first.auto, c.put_numbers-p.ensures.1, c.put_numbers-p.auto, c.put_end-end.ensures.1, c.put_end-end.auto.buffer)

pub returns : goal.returns
unfolding result_line
returns c =
    let w = fields-line _ _ _ _ _ _ _ c.put_digits-first.ensures (fields_then _ _ _ _ _ _ _ _ c.put_numbers-p.ensures.0 c.put_end-end.ensures.0) in
    at_front _ _ _ _ w (omega (arith, w.place, c.requires, dec_most c.args.x.date, c.put_digits-first.ensures.place, c.put_numbers-p.ensures.1, c.put_end-end.ensures.1))
