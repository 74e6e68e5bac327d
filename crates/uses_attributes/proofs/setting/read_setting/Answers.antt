-- The fault is that of the value of the type that the name has.
use Rattle.std.proofs.Common.{refl}
use Rattle.litrs.specs.declared.FloatType.TheVariants.{F64}
use Rattle.litrs.specs.declared.IntegerType.TheVariants.{U16, I64}
use Rattle.litrs_value.specs.declared.value_type.ValueType.TheVariants.{Bool as bool_type, Integer as integer_type, Float as float_type, String as string_type}
use Rattle.uses_attributes.specs.Settings.{is_max, is_offset, is_ratio, is_rename, is_skip}
use Rattle.uses_attributes.proofs.Words.{fault_of_value}
use Rattle.uses_attributes.proofs.setting.read_setting.Goals as goal

pub returns-in-max-clause-fault : goal.returns-in-max-clause-fault
returns-in-max-clause-fault c = fault_of_value _ c.args.name.now (integer_type U16) c.typed.result c.map.result (is_max c.in-max.is refl) c.typed.ensures.fault c.map.ensures.cases

pub returns-in-offset-clause-fault : goal.returns-in-offset-clause-fault
returns-in-offset-clause-fault c = fault_of_value _ c.args.name.now (integer_type I64) c.typed-in-offset.result c.map-in-offset.result (is_offset c.in-offset.is refl) c.typed-in-offset.ensures.fault c.map-in-offset.ensures.cases

pub returns-in-ratio-clause-fault : goal.returns-in-ratio-clause-fault
returns-in-ratio-clause-fault c = fault_of_value _ c.args.name.now (float_type F64) c.typed-in-ratio.result c.map-in-ratio.result (is_ratio c.in-ratio.is refl) c.typed-in-ratio.ensures.fault c.map-in-ratio.ensures.cases

pub returns-in-rename-clause-fault : goal.returns-in-rename-clause-fault
returns-in-rename-clause-fault c = fault_of_value _ c.args.name.now string_type c.typed-in-rename.result c.map-in-rename.result (is_rename c.in-rename.is refl) c.typed-in-rename.ensures.fault c.map-in-rename.ensures.cases

pub returns-in-skip-clause-fault : goal.returns-in-skip-clause-fault
returns-in-skip-clause-fault c = fault_of_value _ c.args.name.now bool_type c.typed-in-skip.result c.map-in-skip.result (is_skip c.in-skip.is refl) c.typed-in-skip.ensures.fault c.map-in-skip.ensures.cases
