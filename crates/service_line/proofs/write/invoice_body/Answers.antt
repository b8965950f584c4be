-- `invoice_body` writes the bytes of the amounts behind the number.
use Rattle.std.proofs.Common.{◌≡◌, [], ◌∷◌, length, pos, ap, ◌∙◌, append-nil, arith}
use Rattle.service_line.proofs.Amounts.{amounts_written}
use Rattle.service_line.proofs.write.invoice_body.Goals as goal

pub returns : goal.returns
returns c =
    let long : length c.map.result ≡ length c.args.amounts = omega arith in
    let written = amounts_written c.args.amounts c.map.result long (λ i lt. (c.map.ensures.items.at i (pos 0) [] (omega arith)).2.met) in
    record { body = ap (λ l. 0x13 ∷ c.args.number ∷ l) (append-nil c.copy_from_slice.new.self ∙ c.copy_from_slice.ensures.after ∙ c.as_flattened.ensures.value ∙ written) }
