-- One name that opens every definition of specs/, so that a test can compute an answer: `unfolding everything`.
-- Assumes nothing.
use Rattle.std.proofs.Common.{ℕ}
use Rattle.definitions.specs.Bytes.{is_digit, is_word, digits_in}
use Rattle.definitions.specs.Keywords.{keywords, is_keyword}
use Rattle.definitions.specs.Record.{key_of, digits_of, number_of, word_of, name_of, digits_line, some_digits, is_forbidden, name_at, name_line, maybe_name_line, scalar_at, size_at, count_at, element_size_at, fixed_scalar_at, fixed_enum_at, reserved_at, flag_at, typedef_at, array_rest, array_at, payload_at, padding_at, checksum_at, desc_at, cond_at, field_at, trailing_at, raw_at, products_at, optional_at, head_at, packet_at, struct_at, enum_at, checksum_decl_at, custom_at, decl_at, fields_at, fields_behind, declarations_at, read_record}
use Rattle.definitions.specs.Sizes.{lookup, desc_size, annotate_fields, fields_size, payloads_size, annotate_from, first_count}
use Rattle.definitions.specs.Refusals.{any_keyword, too_many, duplicate_name, find, unknown_from, out_of_range, static_sum, large, ragged, misstated, no_target, verdict}
use Rattle.definitions.specs.FieldParser.{check_code, is_cond_for, kind_of, parse_bit_field, later_size, trailing_from, parse_typedef_field, parse_optional_field, parse_payload_field_lite, size_backing, parse_array_field, parse_other, is_bit, parse_unchecked, parse, parse_all, lower_fields}
use Rattle.definitions.specs.Answer.{lower_in, lower_record, answer, fitted, lowered}
use Rattle.definitions.specs.All.{with_section, lower_each, all_record, answer_all, lowered_all}

unfoldable pub everything : ℕ
unfolding is_digit is_word digits_in key_of digits_of number_of word_of name_of digits_line some_digits is_forbidden name_at name_line maybe_name_line scalar_at size_at count_at element_size_at fixed_scalar_at fixed_enum_at reserved_at flag_at typedef_at array_rest array_at payload_at padding_at checksum_at desc_at cond_at field_at trailing_at raw_at products_at optional_at head_at packet_at struct_at enum_at checksum_decl_at custom_at decl_at fields_at fields_behind declarations_at read_record lookup desc_size annotate_fields fields_size payloads_size annotate_from first_count keywords is_keyword any_keyword too_many duplicate_name find unknown_from out_of_range static_sum large ragged misstated no_target verdict check_code is_cond_for kind_of parse_bit_field later_size trailing_from parse_typedef_field parse_optional_field parse_payload_field_lite size_backing parse_array_field parse_other is_bit parse_unchecked parse parse_all lower_fields lower_in lower_record answer fitted lowered with_section lower_each all_record answer_all lowered_all
everything = 0
