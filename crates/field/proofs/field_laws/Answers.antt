use Rattle.field.proofs.TimesLaws.{times_comm, times_assoc, times_xor_right, one_times, zero_times, times_lt}
use Rattle.field.proofs.SumLaws.{sum_none, sum_last}
use Rattle.field.proofs.InverseLaws.{times_inverse, inverse_zero, inverse_only, times_none}
use Rattle.field.proofs.field_laws.Goals as goal

pub returns : goal.returns
returns c =
    record {
      commutes = times_comm;
      associates = times_assoc;
      distributes = times_xor_right;
      one = λ a h. one_times h;
      zero = zero_times;
      byte = times_lt;
      inverse = times_inverse;
      inverse_zero = inverse_zero;
      only_inverse = inverse_only;
      none = times_none;
      empty_sum = sum_none;
      longer_sum = sum_last;
    }
